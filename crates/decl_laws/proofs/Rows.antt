-- What is absent where declarations have no fault.
use Rattle.std.proofs.Common.{◌≡◌, refl, sym, List, [], ◌∷◌, Option, Some, None}
use Rattle.std.specs.Prelude.{option_map}
use Rattle.std.proofs.lemmas.Option.{none-some}
use Rattle.spoc_base.specs.declared.fault.Fault.{Fault}
use Rattle.spoc_base.specs.declared.fault.Fault.TheVariants.{Twice, Unknown, Circle, Shape, Limit}
use Rattle.spoc_ast.specs.Written.{DeclText}
use Rattle.policy_decls.specs.Limits.{limit_passed}
use Rattle.policy_decls.specs.Faults.{name_twice, name_unknown, name_on_circle, first_shape, first_of, fault_of}

-- no row of the table of faults holds
pub record HasNoFault (decls : List DeclText) : Type 0 where
  pub twice : name_twice decls ≡ None
  pub unknown : name_unknown decls ≡ None
  pub circle : name_on_circle decls ≡ None
  pub shape : first_shape decls ≡ None
  pub limit : limit_passed decls ≡ None

absent : {A : Type 0} (f : A → Fault) (row : Option A) (rows : List (Option Fault)) → first_of (option_map f row ∷ rows) ≡ None → (row ≡ None) × (first_of rows ≡ None)
absent f None rows e = (refl, e)
absent f (Some x) rows e = absurd (none-some (f x) (sym e))

pub no_rows : (decls : List DeclText) → fault_of decls ≡ None → HasNoFault decls
no_rows decls e =
    let limit = option_map Limit (limit_passed decls) ∷ [] in
    let shape = option_map (λ s. Shape s.0 s.1) (first_shape decls) ∷ limit in
    let circle = option_map Circle (name_on_circle decls) ∷ shape in
    let unknown = option_map Unknown (name_unknown decls) ∷ circle in
    let a = absent Twice (name_twice decls) unknown e in
    let b = absent Unknown (name_unknown decls) circle a.1 in
    let c = absent Circle (name_on_circle decls) shape b.1 in
    let d = absent (λ s. Shape s.0 s.1) (first_shape decls) limit c.1 in
    record { twice = a.0; unknown = b.0; circle = c.0; shape = d.0; limit = (absent Limit (limit_passed decls) [] d.1).0 }
