-- The interfaces of a managed router as its device has them: their hardware are words, and no two have one hardware or one number.
use Rattle.std.proofs.Common.{◌≡◌, ◌≢◌, ℕ, zero, suc, ◌+◌, ◌<◌, ◌≤◌, Bool, true, false, not, cond, inl, inr, List, [], ◌∷◌, length, map, refl, sym, ap, ◌∙◌, arith}
use Rattle.std.specs.Prelude.{◌==◌, bytes_eq, filter, is_some}
use Rattle.std.specs.List.{AllByRecursion, list_all, range_with_len}
use Rattle.std.proofs.lemmas.Bool.{and_parts, eqb-true, false≢true, false_from_ne_true}
use Rattle.std.proofs.lemmas.Slice.Eq.{bytes_eq-Decides}
use Rattle.spoc_base.specs.Spelling.{is_word_byte, is_spelled}
use Rattle.policy_model.specs.Lists.{is_nothing}
use Rattle.policy_model.specs.Policy.{Policy, Router, Iface, no_router, no_iface, router_of, iface_of, router_at, is_managed}
use Rattle.policy_model.specs.Tags.{ifaces_of}
use Rattle.policy_model.proofs.AllWalks.{IsIn, managed_is_there}
use Rattle.policy_laws.proofs.Members.{each_passes, from_filter}
use Rattle.policy_laws.proofs.PermitLines.{in_at}
use Rattle.policy_laws.proofs.Placed.{from_numbers}
use Rattle.policy_laws.proofs.InnerViews.{of_router}
use Rattle.topology.specs.Sound.{IsSound}
use Rattle.device_reading.specs.Facts.{PortAt}
use Rattle.device_reading.specs.Grammar.{Lacks, IsWord}
use Rattle.text_laws.specs.Printable.{AreNamed, AreApart}
use Rattle.text_laws.proofs.EntryWords.{no_word_byte}
use Rattle.printed_laws.specs.ReadFiles.{port_at, ports_of}

-- ---- words

spelled_bytes : (text : List ℕ) → is_spelled text ≡ true → AllByRecursion (λ b. is_word_byte b ≡ true) text
spelled_bytes [] h = tt
spelled_bytes (b ∷ bs) h = let w = and_parts (is_word_byte b) (list_all is_word_byte bs) h in (w.0, spelled_bytes bs w.1)

spelled_lacks : (c : ℕ) → is_word_byte c ≡ false → (text : List ℕ) → is_spelled text ≡ true → Lacks c text
spelled_lacks c out [] h = tt
spelled_lacks c out (b ∷ bs) h = let w = and_parts (is_word_byte b) (list_all is_word_byte bs) h in (no_word_byte c out b w.0, spelled_lacks c out bs w.1)

something : (text : List ℕ) → not (is_nothing text) ≡ true → text ≢ []
something [] h e = false≢true h
something (b ∷ bs) h e = absurd (cc e)

-- ---- what all of a list have

all_mapped : {A B : Type 0} (P : B → Type 0) (f : A → B) (xs : List A) → ((x : A) → IsIn x xs → P (f x)) → AllByRecursion P (map f xs)
all_mapped P f [] each = tt
all_mapped P f (x ∷ xs) each = (each x (inl refl), all_mapped P f xs (λ y h. each y (inr h)))

module _ (p : Policy) (sound : IsSound p) where
  -- the name of a managed router has no line feed
  pub name_lacks : (r : ℕ) → is_managed p r ≡ true → Lacks 10 (router_of p r).name
  name_lacks r managed =
      spelled_lacks 10 refl (router_of p r).name
      (each_passes (λ (x : Router). is_spelled x.name) (router_of p r) p.routers sound.spelled.routers (in_at p.routers no_router r (managed_is_there p r managed)))

  module _ (r : ℕ) (managed : is_managed p r ≡ true) where
    hardware_word : (i : ℕ) → IsIn i (ifaces_of p r) → IsWord (iface_of p i).hardware
    hardware_word i h =
        let of = of_router p r i h in
        let equipped = sound.well_formed.equipped i of.below (ap (is_managed p) of.its ∙ managed) in
        record {
          some = something (iface_of p i).hardware (and_parts (is_some (iface_of p i).addr) (not (is_nothing (iface_of p i).hardware)) equipped).1;
          bytes = spelled_bytes (iface_of p i).hardware
              (each_passes (λ (x : Iface). is_spelled x.hardware) (iface_of p i) p.ifaces sound.spelled.hardware (in_at p.ifaces no_iface i of.below));
        }

    pub ports_named : AreNamed (ports_of p r)
    ports_named = all_mapped (λ (q : PortAt). IsWord q.hardware) (port_at p) (ifaces_of p r) hardware_word

    -- two interfaces of the router
    abbrev AreOther : ℕ → ℕ → Type 0
    AreOther i j = (bytes_eq (iface_of p i).hardware (iface_of p j).hardware ≡ false) × ((i == j) ≡ false)

    two_others : (i j : ℕ) → i < j → j < length p.ifaces → (router_at p i == r) ≡ true → (router_at p j == r) ≡ true → AreOther i j
    two_others i j less below of_i of_j =
        let its : router_at p i ≡ r = eqb-true (router_at p i) r of_i in
        let same : router_at p i ≡ router_at p j = its ∙ sym (eqb-true (router_at p j) r of_j) in
        let there : i < length p.ifaces = omega (arith, less, below) in (
          false_from_ne_true (bytes_eq (iface_of p i).hardware (iface_of p j).hardware)
              (λ t. let e = sound.well_formed.hardware i j there below same (ap (is_managed p) its ∙ managed) ((bytes_eq-Decides (iface_of p i).hardware (iface_of p j).hardware).0 t) in
              omega (arith, e, less)),
          false_from_ne_true (i == j) (λ t. let e = eqb-true i j t in omega (arith, e, less)),
        )

    range_apart : (a n : ℕ) → a + n ≤ length p.ifaces → AreApart (map (port_at p) (filter (λ i. router_at p i == r) (range_with_len a n)))
    range_apart a zero fits = tt
    range_apart a (suc n) fits = go (range_apart (a + 1) n (omega (arith, fits))) (router_at p a == r) refl
      where
        rest : List ℕ
        rest = filter (λ i. router_at p i == r) (range_with_len (a + 1) n)

        from_rest : (router_at p a == r) ≡ true → (j : ℕ) → IsIn j rest → AreOther a j
        from_rest of_a j h =
            let w = from_filter (λ i. router_at p i == r) j (range_with_len (a + 1) n) h in
            let b = from_numbers (a + 1) n j w.0 in
            two_others a j (omega (arith, b.0)) (omega (arith, b.1, fits)) of_a w.1

        go : AreApart (map (port_at p) (filter (λ i. router_at p i == r) (range_with_len (a + 1) n))) → (b : Bool) → (router_at p a == r) ≡ b → AreApart (map (port_at p) (cond b (a ∷ rest) rest))
        go later true e = (all_mapped (λ (q : PortAt). (bytes_eq (iface_of p a).hardware q.hardware ≡ false) × ((a == q.number) ≡ false)) (port_at p) rest (from_rest e), later)
        go later false e = later

    pub ports_apart : AreApart (ports_of p r)
    ports_apart = range_apart 0 (length p.ifaces) (omega arith)
