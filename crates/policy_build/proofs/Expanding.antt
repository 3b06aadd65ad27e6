-- What protocols permit, by their cases.
use Rattle.std.proofs.Common.{arith, ◌≡◌, ◌∙◌, refl, sym, ap, ℕ, zero, suc, ◌-◌, ◌<◌, List, [], ◌∷◌, ◌++◌, map, flat_map, Some, None, Result, Ok, Err, OnOk, append-nil}
use Rattle.std.proofs.lemmas.List.{map-append}
use Rattle.spoc_base.specs.Shown.{box_of}
use Rattle.spoc_base.specs.declared.transport.TBox.{TBox}
use Rattle.spoc_base.specs.Boxes.{TransportBox}
use Rattle.spoc_ast.specs.Written.{Lexeme, SimpleText, PrtText, PrtSimple, PrtProtocol, PrtGroup, DeclText}
use Rattle.policy_decls.specs.Lookup.{first_given, or_nothing}
use Rattle.policy_decls.specs.Said.{prts_of, protocol_called, protocol_group_called}
use Rattle.policy_build.specs.Fair.{fair_box, fair_boxes, fair_boxes_of}

module _ (decls : List DeclText) where
  pub of_simple : (n : ℕ) (s : SimpleText) → fair_boxes decls n (PrtSimple s) ≡ fair_box s ∷ []
  of_simple zero s = refl
  of_simple (suc n) s = append-nil (fair_boxes decls n (PrtSimple s)) ∙ of_simple n s

  pub deeper : (n : ℕ) (prt : PrtText) → 0 < n → fair_boxes decls n prt ≡ flat_map (fair_boxes decls (n - 1)) (prts_of decls prt)
  deeper zero prt h = absurd (omega arith)
  deeper (suc n) prt h = let e : n ≡ suc n - 1 = omega arith in ap (λ m. flat_map (fair_boxes decls m) (prts_of decls prt)) e

  pub shallow : (n : ℕ) (prt : PrtText) → n ≡ 0 → fair_boxes decls n prt ≡ fair_boxes_of prt
  shallow n prt e = ap (λ m. fair_boxes decls m prt) e

  pub of_protocol : (n : ℕ) (w : Lexeme) (s : SimpleText) → 0 < n → first_given (protocol_called w.text) decls ≡ Some (PrtSimple s ∷ []) → fair_boxes decls n (PrtProtocol w) ≡ fair_boxes decls (n - 1) (PrtSimple s)
  of_protocol n w s h e = deeper n (PrtProtocol w) h ∙ ap (λ o. flat_map (fair_boxes decls (n - 1)) (or_nothing o)) e ∙ append-nil (fair_boxes decls (n - 1) (PrtSimple s))

  pub of_no_protocol : (n : ℕ) (w : Lexeme) → 0 < n → first_given (protocol_called w.text) decls ≡ None → fair_boxes decls n (PrtProtocol w) ≡ []
  of_no_protocol n w h e = deeper n (PrtProtocol w) h ∙ ap (λ o. flat_map (fair_boxes decls (n - 1)) (or_nothing o)) e

  pub of_group : (n : ℕ) (w : Lexeme) (prts : List PrtText) → 0 < n → first_given (protocol_group_called w.text) decls ≡ Some prts → fair_boxes decls n (PrtGroup w) ≡ flat_map (fair_boxes decls (n - 1)) prts
  of_group n w prts h e = deeper n (PrtGroup w) h ∙ ap (λ o. flat_map (fair_boxes decls (n - 1)) (or_nothing o)) e

  pub of_no_group : (n : ℕ) (w : Lexeme) → 0 < n → first_given (protocol_group_called w.text) decls ≡ None → fair_boxes decls n (PrtGroup w) ≡ []
  of_no_group n w h e = deeper n (PrtGroup w) h ∙ ap (λ o. flat_map (fair_boxes decls (n - 1)) (or_nothing o)) e

-- ---- lists of boxes that grow

module _ {E : Type 0} where
  pub pushed : (decls : List DeclText) (n : ℕ) (s : SimpleText) (old now : List TBox) (x : TBox) (r : Result (Unit {0}) E) → box_of x ≡ fair_box s → OnOk r (now ≡ old ++ x ∷ []) → OnOk r (map box_of now ≡ map box_of old ++ fair_boxes decls n (PrtSimple s))
  pushed decls n s old now x (Ok u) e h = ap (map box_of) h ∙ map-append box_of old (x ∷ []) ∙ ap (λ b. map box_of old ++ b ∷ []) e ∙ ap (λ l. map box_of old ++ l) (sym (of_simple decls n s))
  pushed decls n s old now x (Err y) e h = h

pub same : (old more : List TransportBox) → more ≡ [] → old ≡ old ++ more
same old more e = sym (ap (λ l. old ++ l) e ∙ append-nil old)
