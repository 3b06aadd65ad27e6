-- The next line is read exactly.
use Rattle.std.proofs.Common.{◌≡◌, ◌≢◌, ◌⊎◌, inl, inr, ◌∙◌, refl, sym, ap, subst, ℕ, suc, List, [], ◌∷◌, ◌++◌, length, length-append, append_assoc, append-nil, flat_map, ◌<◌, arith, eqb, codes, false, true, Bool, Option, Some, None, option_and_then, option_map}
use Rattle.std.specs.List.{list_all, list_any}
use Rattle.std.proofs.lemmas.Bool.{and_parts, both_ways}
use Rattle.std.proofs.lemmas.Option.{none-some, same_Some}
use Rattle.policy_model.specs.Passing.{Config}
use Rattle.spoc_base.specs.declared.dialect.Dialect.{Dialect}
use Rattle.device_reading.specs.Facts.{PortAt, Fact, fact_text, line_text}
use Rattle.device_reading.specs.Grammar.{Lacks, IsFact, AreFacts, binds_port}
use Rattle.device_reading.specs.Reading.{text_of, config_of, AreBound, Reads, IsOutside, IsBadAt}
use Rattle.text_laws.specs.Printable.{AreNamed}
use Rattle.text_laws.proofs.OneLine.{fact_whole}
use Rattle.text_laws.proofs.Standing.{facts_join}
use Rattle.device_lines.specs.Alone.{IsLineOf}
use Rattle.device_lines.specs.Lines.{said_by}
use Rattle.device_lines.specs.Numbers.{cut_at}
use Rattle.device_lines.proofs.NumberLaws.{some_then, some_map, cut_there, cut_back, cut_lacks}
use Rattle.device_lines.proofs.LineLaws.{line_there, line_back}
use Rattle.acl_read.specs.Completed.{completed, bare}
use Rattle.acl_read.specs.Next.{fact_in, first_line, next_fact, IsScanned}
use Rattle.acl_read.proofs.CompleteLaws.{completes, bared}

-- the text begins with the line of this fact, which may stand there
pub record IsNext (dialect : Dialect) (ports : List PortAt) (above : List Fact) (text : List ℕ) (fact : Fact) (rest : List ℕ) : Type 0 where
  pub good : IsFact dialect ports above fact
  pub spelled : text ≡ line_text dialect fact ++ rest

module _ (dialect : Dialect) (ports : List PortAt) (above : List Fact) where
  -- what a line is read as
  record IsIn (line : List ℕ) (fact : Fact) : Type 0 where
    good : IsFact dialect ports above fact
    spelled : line ≡ fact_text dialect fact

  fact_there : (line : List ℕ) (fact : Fact) → Lacks 10 line → fact_in dialect ports above line ≡ Some fact → IsIn line fact
  fact_there line fact l e =
      let x = some_then {B = Fact} (completed dialect ports above) (said_by dialect line) fact e in
      let s = line_there dialect line x.0 x.1 in
      let c = completes ports above dialect x.0 fact (subst (Lacks 10) s.spelled l) s.good x.2 in
      record { good = c.good; spelled = s.spelled ∙ sym c.same_text }

  pub next_there : (text : List ℕ) (fact : Fact) (rest : List ℕ) → next_fact dialect ports above text ≡ Some (fact, rest) → IsNext dialect ports above text fact rest
  next_there text fact rest e =
      let x = some_then {B = Fact × List ℕ} (λ (cut : List ℕ × List ℕ). option_map (λ f. (f, cut.1)) (fact_in dialect ports above cut.0)) (first_line text) (fact, rest) e in
      let y = some_map {B = Fact × List ℕ} (λ f. (f, x.0.1)) (fact_in dialect ports above x.0.0) (fact, rest) x.2 in
      let same : y.0 ≡ fact = ap (λ (r : Fact × List ℕ). r.0) y.2 in
      let left : x.0.1 ≡ rest = ap (λ (r : Fact × List ℕ). r.1) y.2 in
      let f = fact_there x.0.0 y.0 (cut_lacks 10 text x.0 x.1) y.1 in
      let regrouped : fact_text dialect y.0 ++ 10 ∷ x.0.1 ≡ line_text dialect y.0 ++ x.0.1 = sym (append_assoc (fact_text dialect y.0) (codes "\n") x.0.1) in
      record {
        good = subst (IsFact dialect ports above) same f.good;
        spelled = cut_there 10 text x.0 x.1 ∙ ap (λ l. l ++ 10 ∷ x.0.1) f.spelled ∙ regrouped ∙ (λ i. line_text dialect (same i) ++ left i);
      }

  fact_back : (named : AreNamed ports) (fact : Fact) → IsFact dialect ports above fact → fact_in dialect ports above (fact_text dialect fact) ≡ Some fact
  fact_back named fact h =
      let b = bared ports named above dialect fact h in
      ap (option_and_then (completed dialect ports above)) (line_back dialect (fact_text dialect fact) (bare dialect fact) (record { good = b.alone; spelled = sym b.same_text })) ∙ b.told

  pub next_back : (named : AreNamed ports) (fact : Fact) (more : List ℕ) → IsFact dialect ports above fact → next_fact dialect ports above (line_text dialect fact ++ more) ≡ Some (fact, more)
  next_back named fact more h =
      ap (next_fact dialect ports above) (append_assoc (fact_text dialect fact) (codes "\n") more)
      ∙ ap (option_and_then {U = Fact × List ℕ} (λ (cut : List ℕ × List ℕ). option_map (λ f. (f, cut.1)) (fact_in dialect ports above cut.0)))
      (cut_back 10 (fact_text dialect fact) more (fact_whole ports named above dialect fact h))
      ∙ ap (option_map {U = Fact × List ℕ} (λ f. (f, more))) (fact_back named fact h)

  pub next_outside : (named : AreNamed ports) (text : List ℕ) → next_fact dialect ports above text ≡ None → IsOutside dialect ports above text
  next_outside named text e fact more h f = none-some (fact, more) (sym e ∙ ap (next_fact dialect ports above) f ∙ next_back named fact more h)

-- what is no line says nothing
pub in_none : (dialect : Dialect) (ports : List PortAt) (above : List Fact) (line : List ℕ) → ((f : Fact) → IsLineOf dialect f line → ⊥) → None ≡ fact_in dialect ports above line
in_none dialect ports above line h = by (said_by dialect line) refl
  where
    by : (o : Option Fact) → said_by dialect line ≡ o → None ≡ option_and_then (completed dialect ports above) o
    by None e = refl
    by (Some f) e = absurd (h f (line_there dialect line f e))

pub in_some : (dialect : Dialect) (ports : List PortAt) (above : List Fact) (line : List ℕ) (said : Fact) → IsLineOf dialect said line → fact_in dialect ports above line ≡ completed dialect ports above said
in_some dialect ports above line said h = ap (option_and_then (completed dialect ports above)) (line_back dialect line said h)

-- ---- the scan

shorter : (t : List ℕ) (rest : List ℕ) → length rest < length ((t ++ codes "\n") ++ rest)
shorter t rest = omega (arith, length-append (t ++ codes "\n") rest, length-append t (codes "\n"))

pub left_shorter : (dialect : Dialect) (ports : List PortAt) (above : List Fact) (text : List ℕ) (fact : Fact) (rest : List ℕ) → next_fact dialect ports above text ≡ Some (fact, rest) → length rest < length text
left_shorter dialect ports above text fact rest e =
    let n = next_there dialect ports above text fact rest e in
    subst (λ t. length rest < length t) (sym n.spelled) (shorter (fact_text dialect fact) rest)

bound_there : (facts : List Fact) (ports : List PortAt) → list_all (λ (p : PortAt). list_any (binds_port p.hardware) facts) ports ≡ true → AreBound ports facts
bound_there facts [] e = tt
bound_there facts (p ∷ ports) e =
    let w = and_parts (list_any (binds_port p.hardware) facts) (list_all (λ (q : PortAt). list_any (binds_port q.hardware) facts) ports) e in
    (w.0, bound_there facts ports w.1)

text_more : (dialect : Dialect) (facts : List Fact) (fact : Fact) → text_of dialect (facts ++ fact ∷ []) ≡ text_of dialect facts ++ line_text dialect fact
text_more dialect [] fact = append-nil (line_text dialect fact)
text_more dialect (f ∷ facts) fact = ap (λ t. line_text dialect f ++ t) (text_more dialect facts fact) ∙ sym (append_assoc (line_text dialect f) (text_of dialect facts) (line_text dialect fact))

module _ (dialect : Dialect) (ports : List PortAt) (text : List ℕ) where
  pub scan_begins : IsScanned dialect ports text [] text
  scan_begins = record { spelled = refl; each = tt }

  pub scan_goes_on : (facts : List Fact) (rest : List ℕ) (fact : Fact) (left : List ℕ) → IsScanned dialect ports text facts rest → next_fact dialect ports facts rest ≡ Some (fact, left) →
      IsScanned dialect ports text (facts ++ fact ∷ []) left
  scan_goes_on facts rest fact left s e =
      let n = next_there dialect ports facts rest fact left e in
      record {
        spelled =
            s.spelled ∙ ap (λ r. text_of dialect facts ++ r) n.spelled ∙ sym (append_assoc (text_of dialect facts) (line_text dialect fact) left)
            ∙ ap (λ t. t ++ left) (sym (text_more dialect facts fact));
        each = facts_join dialect ports [] facts (fact ∷ []) s.each (n.good, tt);
      }

  -- a line that may not stand there
  pub scan_stops : (named : AreNamed ports) (facts : List Fact) (rest : List ℕ) → IsScanned dialect ports text facts rest → rest ≢ [] → next_fact dialect ports facts rest ≡ None →
      IsBadAt dialect ports text (suc (length facts))
  scan_stops named facts rest s some e = record { above = facts; rest = rest; spelled = s.spelled; each = s.each; at = refl; bad = inl (some, next_outside dialect ports facts named rest e) }

  -- all lines may stand where they stand, and a port has no list
  pub scan_lacks : (facts : List Fact) → IsScanned dialect ports text facts [] → list_all (λ (p : PortAt). list_any (binds_port p.hardware) facts) ports ≡ false →
      IsBadAt dialect ports text (suc (length facts))
  scan_lacks facts s e = record { above = facts; rest = []; spelled = s.spelled; each = s.each; at = refl; bad = inr (refl, e) }

  pub scan_ends : (facts : List Fact) → IsScanned dialect ports text facts [] → AreBound ports facts → Reads dialect ports text (config_of ports facts)
  scan_ends facts s b = record { facts = facts; spelled = s.spelled ∙ append-nil (text_of dialect facts); each = s.each; bound = b; is_config = refl }

  -- ---- as the code tells it

  pub stops_here : (named : AreNamed ports) (facts : List Fact) (rest : List ℕ) (line : ℕ) → IsScanned dialect ports text facts rest → eqb (length rest) 0 ≡ false → None ≡ next_fact dialect ports facts rest →
      line ≡ suc (length facts) → IsBadAt dialect ports text line
  stops_here named facts rest line s some e f = subst (IsBadAt dialect ports text) (sym f) (scan_stops named facts rest s (λ none. both_ways (eqb (length rest) 0) some (ap (λ r. eqb (length r) 0) none)) (sym e))

  pub goes_on : (facts : List Fact) (rest : List ℕ) (fact : Fact) (left : List ℕ) (all : List Fact) → IsScanned dialect ports text facts rest → Some (fact, left) ≡ next_fact dialect ports facts rest →
      all ≡ facts ++ fact ∷ [] → IsScanned dialect ports text all left
  goes_on facts rest fact left all s e f = subst (λ fs. IsScanned dialect ports text fs left) (sym f) (scan_goes_on facts rest fact left s (sym e))

  pub lacks_one : (facts : List Fact) (line : ℕ) → IsScanned dialect ports text facts [] → list_all (λ (p : PortAt). list_any (binds_port p.hardware) facts) ports ≡ false → line ≡ suc (length facts) → IsBadAt dialect ports text line
  lacks_one facts line s e f = subst (IsBadAt dialect ports text) (sym f) (scan_lacks facts s e)

  pub ends_here : (facts : List Fact) (config : Config) → IsScanned dialect ports text facts [] → list_all (λ (p : PortAt). list_any (binds_port p.hardware) facts) ports ≡ true → config ≡ config_of ports facts → Reads dialect ports text config
  ends_here facts config s e f = subst (Reads dialect ports text) (sym f) (scan_ends facts s (bound_there facts ports e))
