-- Each file that is written for an accepted policy reads as its router's configuration and as no other.
use Rattle.std.proofs.Common.{◌≡◌, ◌≢◌, ◌<◌, ◌≤◌, ℕ, Bool, true, false, cond, inl, inr, List, [], ◌∷◌, length, map, refl, sym, ap, subst, ◌∙◌, arith}
use Rattle.std.specs.Prelude.{◌^◌, ◌==◌, sum_by, Option, Some, None, Ok}
use Rattle.std.proofs.lemmas.Bool.{eqb-true}
use Rattle.std.specs.List.{AllByRecursion}
use Rattle.std.proofs.lemmas.List.{length-map}
use Rattle.spoc_base.specs.Dialects.{places_replies, is_grouped}
use Rattle.spoc_base.specs.declared.dialect.Dialect.{Dialect}
use Rattle.spoc_base.specs.declared.dialect.Dialect.TheVariants.{Ios, Asa}
use Rattle.policy_model.specs.Policy.{Policy, Device, device_does, router_of, router_at, is_managed, all_ifaces, all_routers, managed_routers}
use Rattle.policy_model.specs.Tags.{ifaces_of}
use Rattle.policy_model.specs.Filters.{Line, deny_all}
use Rattle.policy_model.specs.Blocks.{block_lines, placement, is_grouped_at, list_at}
use Rattle.policy_model.specs.Optimised.{optimised_lines}
use Rattle.policy_model.specs.Grouped.{grouped_lines}
use Rattle.policy_model.specs.FirstFault.{most_items, line_count}
use Rattle.std.specs.Prelude.{flat_map}
use Rattle.policy_model.specs.Passing.{Config}
use Rattle.policy_model.specs.Headline.{Meaning, IsMeaning, permits_in}
use Rattle.policy_model.proofs.AllWalks.{IsIn, from_map}
use Rattle.policy_laws.specs.Shaped.{IsShaped}
use Rattle.policy_laws.proofs.Members.{from_filter}
use Rattle.policy_laws.proofs.InnerViews.{of_router}
use Rattle.topology.specs.Sound.{IsSound}
use Rattle.meaning_laws.specs.Tables.{meaning_of}
use Rattle.meaning_laws.proofs.MeaningThere.{meaning_found}
use Rattle.acl_print.specs.Seen.{PortName}
use Rattle.acl_print.specs.Groups.{groups_of}
use Rattle.acl_print.specs.DeviceText.{device_text}
use Rattle.policy_outcome.specs.Files.{config_for, dialect_of, port_of, file_for, files_of}
use Rattle.policy_outcome.specs.Outcome.{Written, lists_for, written_for, outcome_for}
use Rattle.policy_outcome.specs.Exact.{configs_for}
use Rattle.outcome_laws.proofs.Listed.{own_list, own_written, lists_written}
use Rattle.outcome_laws.proofs.Untold.{untold, few_lines}
use Rattle.text_laws.specs.Printable.{name_of, IsPrintedList, IsPrintable}
use Rattle.text_laws.proofs.Laws.{print_reads, print_reads_alone}
use Rattle.printed_laws.specs.ReadFiles.{port_at, ports_of, dialect_at, ReadsOnlyAs, IsReadAs, AreReadAs}
use Rattle.printed_laws.proofs.Boxes.{permit_plain}
use Rattle.printed_laws.proofs.Prefixes.{each_net}
use Rattle.printed_laws.proofs.Lines.{IsWritten, each_line, all_listed, list_printed, ends_in_one}
use Rattle.printed_laws.proofs.Kept.{from_optimised, few_optimised, some_optimised}
use Rattle.printed_laws.proofs.Joined.{wide, grouped_wide, few_grouped, some_grouped, wide_printed}
use Rattle.printed_laws.proofs.GroupCount.{group_count, sum_of_some, sum_mapped}
use Rattle.printed_laws.proofs.Ports.{name_lacks, ports_named, ports_apart}

-- ---- names of interfaces

names_of : (p : Policy) (numbers : List ℕ) → map name_of (map (port_at p) numbers) ≡ map (port_of p) numbers
names_of p [] = refl
names_of p (i ∷ numbers) = ap (λ (names : List PortName). port_of p i ∷ names) (names_of p numbers)

-- ---- lists

-- only IOS has lines for replies
replies_of : (o : Option Device) → device_does places_replies o ≡ true → dialect_of o ≡ Ios
replies_of None h = refl
replies_of (Some device) h = by device.dialect h
  where
    by : (d : Dialect) → places_replies d ≡ true → d ≡ Ios
    by Ios e = refl
    by Asa e = absurd (cc e)

-- only an ASA has groups
grouped_of : (o : Option Device) → device_does is_grouped o ≡ true → dialect_of o ≡ Asa
grouped_of None h = absurd (cc h)
grouped_of (Some device) h = by device.dialect h
  where
    by : (d : Dialect) → is_grouped d ≡ true → d ≡ Asa
    by Asa e = refl
    by Ios e = absurd (cc e)

-- the list as it is written is no longer
shorter : (m : Meaning) (i : ℕ) → length (own_written m i) ≤ length (own_list m i)
shorter m i = go (is_grouped_at m.site.policy i)
  where
    short : List Line
    short = optimised_lines (own_list m i)

    go : (b : Bool) → length (cond b (grouped_lines short) short) ≤ length (own_list m i)
    go false = few_optimised (own_list m i)
    go true = let a = few_grouped short in let b = few_optimised (own_list m i) in omega (arith, a, b)

module _ (m : Meaning) (sound : IsSound m.site.policy) (shape : IsShaped m.site.policy) (few : line_count m.site m.views (permits_in m) ≤ most_items) where
  abbrev p : Policy
  p = m.site.policy

  abbrev config : ℕ → Config
  config r = config_for p (lists_for m) r

  -- ---- one router

  module _ (r : ℕ) (managed : is_managed p r ≡ true) where
    line_written : (i : ℕ) → IsIn i (ifaces_of p r) → (l : Line) → IsIn l (own_list m i) → IsWritten (dialect_at p r) l
    line_written i there =
        let of = of_router p r i there in
        each_line (dialect_at p r) m.site m.views (permits_in m) i (permit_plain m.site m.areas sound.plain) (each_net p.nets shape.nets)
        (λ e. replies_of (router_of p r).device (ap (λ k. device_does places_replies (router_of p k).device) (sym of.its) ∙ e))

    written_printed : (i : ℕ) → IsIn i (ifaces_of p r) → IsPrintedList (dialect_at p r) (own_written m i)
    written_printed i there = go (is_grouped_at p i) refl
      where
        short : List Line
        short = optimised_lines (own_list m i)

        some : short ≢ []
        some = some_optimised (own_list m i) (ends_in_one (flat_map (block_lines m.site m.views (permits_in m) i) (placement m.site m.views (permits_in m) i)) deny_all)

        each : (l : Line) → IsIn l short → IsWritten (dialect_at p r) l
        each l h = line_written i there l (from_optimised (own_list m i) l h)

        asa : is_grouped_at p i ≡ true → dialect_at p r ≡ Asa
        asa e = let of = of_router p r i there in grouped_of (router_of p r).device (ap (λ k. device_does is_grouped (router_of p k).device) (sym of.its) ∙ e)

        go : (b : Bool) → is_grouped_at p i ≡ b → IsPrintedList (dialect_at p r) (cond b (grouped_lines short) short)
        go false e = list_printed (dialect_at p r) short some each
        go true e =
            subst (λ (d : Dialect). IsPrintedList d (grouped_lines short)) (sym (asa e))
            (wide_printed (grouped_lines short) (some_grouped short some) (grouped_wide Asa short (λ l h. wide Asa l (subst (λ (d : Dialect). IsWritten d l) (asa e) (each l h)))))

    printed_at : (lines : List Line) → IsIn lines (map (own_written m) (ifaces_of p r)) → IsPrintedList (dialect_at p r) lines
    printed_at lines h = let w = from_map (own_written m) lines (ifaces_of p r) h in subst (IsPrintedList (dialect_at p r)) (sym w.2) (written_printed w.0 w.1)

    few_written : (lists : List (List Line)) → lists ≡ map (own_written m) (ifaces_of p r) → length (groups_of lists) < 2 ^ 64
    few_written lists e =
        let a = group_count lists in
        let b = ap (sum_by length) e ∙ sum_mapped length (own_written m) (ifaces_of p r) in
        let c = sum_of_some (λ i. length (own_written m i)) (λ i. length (own_list m i)) (λ i. router_at p i == r) (λ i. is_managed p (router_at p i)) (all_ifaces p) (shorter m)
        (λ i h. ap (is_managed p) (eqb-true (router_at p i) r h) ∙ managed) in
        omega (arith, a, b, c, few)

    printable : IsPrintable (dialect_at p r) (router_of p r).name (ports_of p r) (config r)
    printable =
        let lists : (config r).lists ≡ map (own_written m) (ifaces_of p r) = lists_written m r managed in
        record {
          name_good = name_lacks p sound r managed;
          named = ports_named p sound r managed;
          apart = ports_apart p sound r managed;
          one_each = ap length lists ∙ (length-map (ifaces_of p r) (own_written m) ∙ sym (length-map (ifaces_of p r) (port_at p)));
          lists = subst (AllByRecursion (IsPrintedList (dialect_at p r))) (sym lists) (all_listed (IsPrintedList (dialect_at p r)) (map (own_written m) (ifaces_of p r)) printed_at);
          routes = tt;
          few_groups = few_written (config r).lists lists;
        }

    text_read : ReadsOnlyAs (dialect_at p r) (ports_of p r) (device_text (dialect_at p r) (router_of p r).name (map (port_of p) (ifaces_of p r)) (config r)) (config r)
    text_read =
        subst (λ (names : List PortName). ReadsOnlyAs (dialect_at p r) (ports_of p r) (device_text (dialect_at p r) (router_of p r).name names (config r)) (config r))
        (names_of p (ifaces_of p r))
        (record {
          reads = print_reads (dialect_at p r) (router_of p r).name (ports_of p r) (config r) printable;
          only = λ other h. sym (print_reads_alone (dialect_at p r) (router_of p r).name (ports_of p r) (config r) other printable h);
        })

    file_read : IsReadAs p r (config r) (file_for p r (config r))
    file_read = record { name = refl; text = text_read }

  each_file : (routers : List ℕ) → ((r : ℕ) → IsIn r routers → is_managed p r ≡ true) → AreReadAs p routers (map config routers) (files_of p (lists_for m) routers)
  each_file [] managed = tt
  each_file (r ∷ routers) managed = (file_read r (managed r (inl refl)), each_file routers (λ k h. managed k (inr h)))

  own_files : AreReadAs p (managed_routers p) (configs_for m) (written_for m).files
  own_files = each_file (managed_routers p) (λ r h. (from_filter (is_managed p) r (all_routers p) h).1)

-- so it is with a policy that has the meaning
read_by : (p : Policy) (m : Meaning) (written : Written) → IsMeaning p m → IsSound p → IsShaped p → outcome_for m ≡ Ok written →
    AreReadAs p (managed_routers p) (configs_for m) written.files
read_by p m written its sound shape e =
    subst (λ (files : List (List ℕ × List ℕ)). AreReadAs p (managed_routers p) (configs_for m) files) (sym (ap (λ (w : Written). w.files) (untold m written e).all))
    (subst (λ (q : Policy). IsSound q → IsShaped q → AreReadAs q (managed_routers q) (configs_for m) (written_for m).files) its.policy
    (λ its_sound its_shape. own_files m its_sound its_shape (few_lines m (untold m written e).walks)) sound shape)

pub files_read : (p : Policy) (written : Written) → IsSound p → IsShaped p → outcome_for (meaning_of p) ≡ Ok written →
    AreReadAs p (managed_routers p) (configs_for (meaning_of p)) written.files
files_read p written sound shape e = read_by p (meaning_of p) written (meaning_found p) sound shape e
