-- Loops that gather items, against readers that do so by a count.
use Rattle.std.proofs.Common.{◌≡◌, ◌+◌, ℕ, zero, suc, Bool, true, false, List, [], ◌∷◌, ◌++◌, Option, Some, None, Result, Ok, Err, length, refl, sym, ap, subst, ◌∙◌, arith, append_assoc, if◌then◌else◌}
use Rattle.std.specs.Prelude.{codes}
use Rattle.std.specs.List.{AllZip}
use Rattle.std.proofs.lemmas.List.{append-nil, length_push}
use Rattle.std.proofs.lemmas.Bool.{false≢true}
use Rattle.spoc_lexer.specs.Tokens.{Tok}
use Rattle.spoc_parser.specs.declared.fail.Stop.{Stop}
use Rattle.spoc_parser.specs.declared.fail.Stop.TheVariants.{Unread, Memory}
use Rattle.spoc_parser.specs.Readers.{Reader, then_read, with_first, past, at_sign, read_up_to, read_commas, read_further, read_listed}
use Rattle.spoc_parser.specs.Seen.{SoFar, Gives, FailsAs, Behind, after}

after_first : {A : Type 0} (xs : List A) (a : A) (o : Option (List A × List Tok)) → after (xs ++ a ∷ []) o ≡ after xs (with_first a o)
after_first xs a None = refl
after_first xs a (Some r) = ap (λ l. Some (l, r.1)) (append_assoc xs (a ∷ []) r.0)

after_nil : {A : Type 0} (o : Option (List A × List Tok)) → after [] o ≡ o
after_nil None = refl
after_nil (Some r) = refl

-- nothing is gathered yet
pub at_start : {A X : Type 0} (R : List A → List X → Type 0) (read : ℕ → Reader (List A)) (found : List X) (k : ℕ) (all : List Tok) → k ≡ 0 → R [] found → SoFar R read found k all all
at_start R read found k all e h = ([], h, λ n. let same : n ≡ n + k = omega arith in after_nil (read n all) ∙ ap (λ m. read m all) same)

-- one item more
pub one_more : {A X : Type 0} (R : List A → List X → Type 0) (read : ℕ → Reader (List A)) (found now : List X) (k k' : ℕ) (left rest all : List Tok) (a : A) → k' ≡ k + 1 → ((n : ℕ) → read (suc n) left ≡ with_first a (read n rest)) → ((xs : List A) → R xs found → R (xs ++ a ∷ []) now) → SoFar R read found k left all → SoFar R read now k' rest all
one_more R read found now k k' left rest all a e step more (xs, held, goes) = (
  xs ++ a ∷ [],
  more xs held,
  λ n.
      let count : suc n + k ≡ n + k' = omega arith in
      after_first xs a (read n rest) ∙ ap (after xs) (sym (step n)) ∙ goes (suc n) ∙ ap (λ m. read m all) count,
)

-- the end
pub at_end : {A X V : Type 0} (R : List A → List X → Type 0) (items : V → List X) (read : ℕ → Reader (List A)) (v : V) (k n : ℕ) (left rest all : List Tok) → n + k ≡ length all → read n left ≡ Some ([], rest) → SoFar R read (items v) k left all → Gives (λ xs w. R xs (items w)) (Ok v) rest (read (length all) all)
at_end R items read v k n left rest all e stop (xs, held, goes) =
    let is : read (length all) all ≡ Some (xs ++ [], rest) = ap (λ m. read m all) (sym e) ∙ sym (goes n) ∙ ap (after xs) stop in
    rw (is, append-nil xs) (held, refl)

-- an item that fails
pub at_fail : {A X : Type 0} (R : List A → List X → Type 0) (read : ℕ → Reader (List A)) (found : List X) (k n : ℕ) (left all : List Tok) → n + k ≡ length all → read n left ≡ None → SoFar R read found k left all → read (length all) all ≡ None
at_fail R read found k n left all e fail (xs, held, goes) = ap (λ m. read m all) (sym e) ∙ sym (goes n) ∙ ap (after xs) fail

-- an error is handed on
pub gives_err : {A B : Type 0} (e : Stop) (o : Option A) (p : Option B) → FailsAs e o → (o ≡ None → p ≡ None) → FailsAs e p
gives_err Unread None p h f = rw (f refl) tt
gives_err Unread (Some r) p h f = absurd h
gives_err Memory o p h f = tt

-- what was read, as the definition reads it
pub given : {A X : Type 0} (R : A → X → Type 0) (x : X) (left : List Tok) (o : Option (A × List Tok)) → Gives R (Ok x) left o → (a : A) × R a x × (o ≡ Some (a, left))
given R x left None h = absurd h
given R x left (Some r) h = (r.0, h.0, ap (λ l. Some (r.0, l)) (sym h.1))

pub zip_push : {A X : Type 0} (R : A → X → Type 0) (xs : List A) (ys : List X) (a : A) (y : X) → AllZip R xs ys → R a y → AllZip R (xs ++ a ∷ []) (ys ++ y ∷ [])
zip_push R [] [] a y h r = (r, tt)
zip_push R [] (z ∷ ys) a y h r = absurd h
zip_push R (x ∷ xs) [] a y h r = absurd h
zip_push R (x ∷ xs) (z ∷ ys) a y h r = (h.0, zip_push R xs ys a y h.1 r)

-- a turn of a loop up to an end
until_step : {A : Type 0} (ends : List Tok → Bool) (read : Reader A) (n : ℕ) (left rest : List Tok) (a : A) → ends left ≡ false → read left ≡ Some (a, rest) → read_up_to ends read (suc n) left ≡ with_first a (read_up_to ends read n rest)
until_step ends read n left rest a e h = rw (e, h) refl

until_fail : {A : Type 0} (ends : List Tok → Bool) (read : Reader A) (n : ℕ) (left : List Tok) → ends left ≡ false → read left ≡ None → read_up_to ends read n left ≡ None
until_fail ends read zero left e h = rw e refl
until_fail ends read (suc n) left e h = rw (e, h) refl

until_stop : {A : Type 0} (ends : List Tok → Bool) (read : Reader A) (n : ℕ) (left : List Tok) → ends left ≡ true → read_up_to ends read n left ≡ Some ([], left)
until_stop ends read zero left e = rw e refl
until_stop ends read (suc n) left e = rw e refl

-- the three ends of a turn
pub until_err : {A X : Type 0} (ends : List Tok → Bool) (read : Reader A) (R : A → X → Type 0) (found : List X) (e : Stop) (all left rest : List Tok) (m : ℕ) → ends left ≡ false → m + length found ≡ length all → Gives R (Err e) rest (read left) → SoFar (AllZip R) (read_up_to ends read) found (length found) left all → FailsAs e (read_up_to ends read (length all) all)
until_err ends read R found e all left rest m on count h so_far =
    gives_err e (read left) _ h (λ none. at_fail (AllZip R) (read_up_to ends read) found (length found) m left all count (until_fail ends read m left on none) so_far)

pub until_more : {A X : Type 0} (ends : List Tok → Bool) (read : Reader A) (R : A → X → Type 0) (found now : List X) (x : X) (all left rest : List Tok) → ends left ≡ false → now ≡ found ++ x ∷ [] → Gives R (Ok x) rest (read left) → SoFar (AllZip R) (read_up_to ends read) found (length found) left all → SoFar (AllZip R) (read_up_to ends read) now (length now) rest all
until_more ends read R found now x all left rest on pushed h so_far =
    let got = given R x rest (read left) h in
    let size : length now ≡ length found + 1 = ap length pushed ∙ length_push found x in
    one_more (AllZip R) (read_up_to ends read) found now (length found) (length now) left rest all got.0 size (λ n. until_step ends read n left rest got.0 on got.2) (λ xs held. subst (AllZip R (xs ++ got.0 ∷ [])) (sym pushed) (zip_push R xs found got.0 x held got.1)) so_far

pub until_end : {A X V : Type 0} (ends : List Tok → Bool) (read : Reader A) (R : A → X → Type 0) (found : List X) (v : V) (items : V → List X) (all left : List Tok) (n : ℕ) → items v ≡ found → ends left ≡ true → n + length found ≡ length all → SoFar (AllZip R) (read_up_to ends read) found (length found) left all → Gives (λ xs w. AllZip R xs (items w)) (Ok v) left (read_up_to ends read (length all) all)
until_end ends read R found v items all left n is on count so_far =
    at_end (AllZip R) items (read_up_to ends read) v (length found) n left left all count (until_stop ends read n left on) (subst (λ ys. SoFar (AllZip R) (read_up_to ends read) ys (length found) left all) (sym is) so_far)

behind_push : {A X : Type 0} (R : A → X → Type 0) (before : List X) (xs : List A) (ys : List X) (a : A) (y : X) → R a y → Behind before (AllZip R xs) ys → Behind before (AllZip R (xs ++ a ∷ [])) (ys ++ y ∷ [])
behind_push R [] xs ys a y r h = zip_push R xs ys a y h r
behind_push R (x ∷ before) xs [] a y r h = absurd h
behind_push R (x ∷ before) xs (z ∷ ys) a y r h = (h.0, behind_push R before xs ys a y r h.1)

pub behind_nil : {A X : Type 0} (R : A → X → Type 0) (before : List X) → Behind before (AllZip R []) before
behind_nil R [] = tt
behind_nil R (x ∷ before) = (refl, behind_nil R before)

-- a turn of a loop behind commas
commas_step : {A : Type 0} (ends : List Tok → Bool) (read : Reader A) (n : ℕ) (left rest : List Tok) (a : A) → at_sign (codes ",") left ≡ true → ends (past left) ≡ false → read (past left) ≡ Some (a, rest) → read_commas ends read (suc n) left ≡ with_first a (read_commas ends read n rest)
commas_step ends read n left rest a e d h = rw (e, d, h) refl

commas_fail : {A : Type 0} (ends : List Tok → Bool) (read : Reader A) (n : ℕ) (left : List Tok) → at_sign (codes ",") left ≡ true → ends (past left) ≡ false → read (past left) ≡ None → read_commas ends read n left ≡ None
commas_fail ends read zero left e d h = rw e refl
commas_fail ends read (suc n) left e d h = rw (e, d, h) refl

commas_close : {A : Type 0} (ends : List Tok → Bool) (read : Reader A) (n : ℕ) (left : List Tok) → at_sign (codes ",") left ≡ true → ends (past left) ≡ true → read_commas ends read (suc n) left ≡ Some ([], past left)
commas_close ends read n left e d = rw (e, d) refl

commas_stop : {A : Type 0} (ends : List Tok → Bool) (read : Reader A) (n : ℕ) (left : List Tok) → at_sign (codes ",") left ≡ false → read_commas ends read n left ≡ Some ([], left)
commas_stop ends read zero left e = rw e refl
commas_stop ends read (suc n) left e = rw e refl

pub commas_err : {A X : Type 0} (ends : List Tok → Bool) (read : Reader A) (R : A → X → Type 0) (before found : List X) (e : Stop) (all left taken rest : List Tok) (k m : ℕ) → at_sign (codes ",") left ≡ true → taken ≡ past left → ends taken ≡ false → m + k ≡ length all → Gives R (Err e) rest (read taken) → SoFar (λ xs ys. Behind before (AllZip R xs) ys) (read_commas ends read) found k left all → FailsAs e (read_commas ends read (length all) all)
commas_err ends read R before found e all left taken rest k m next is on count h so_far =
    gives_err e (read taken) _ h (λ none. at_fail (λ xs ys. Behind before (AllZip R xs) ys) (read_commas ends read) found k m left all count (commas_fail ends read m left next (ap ends (sym is) ∙ on) (ap read (sym is) ∙ none)) so_far)

pub commas_more : {A X : Type 0} (ends : List Tok → Bool) (read : Reader A) (R : A → X → Type 0) (before found now : List X) (x : X) (all left taken rest : List Tok) (k k' : ℕ) → at_sign (codes ",") left ≡ true → taken ≡ past left → ends taken ≡ false → k' ≡ k + 1 → now ≡ found ++ x ∷ [] → Gives R (Ok x) rest (read taken) → SoFar (λ xs ys. Behind before (AllZip R xs) ys) (read_commas ends read) found k left all → SoFar (λ xs ys. Behind before (AllZip R xs) ys) (read_commas ends read) now k' rest all
commas_more ends read R before found now x all left taken rest k k' next is on size pushed h so_far =
    let got = given R x rest (read taken) h in
    one_more (λ xs ys. Behind before (AllZip R xs) ys) (read_commas ends read) found now k k' left rest all got.0 size (λ n. commas_step ends read n left rest got.0 next (ap ends (sym is) ∙ on) (ap read (sym is) ∙ got.2)) (λ xs held. subst (Behind before (AllZip R (xs ++ got.0 ∷ []))) (sym pushed) (behind_push R before xs found got.0 x got.1 held)) so_far

pub commas_closed : {A X V : Type 0} (ends : List Tok → Bool) (read : Reader A) (R : A → X → Type 0) (before found : List X) (v : V) (items : V → List X) (all left rest : List Tok) (k m : ℕ) → items v ≡ found → at_sign (codes ",") left ≡ true → rest ≡ past left → ends rest ≡ true → suc m + k ≡ length all → SoFar (λ xs ys. Behind before (AllZip R xs) ys) (read_commas ends read) found k left all → Gives (λ xs w. Behind before (AllZip R xs) (items w)) (Ok v) rest (read_commas ends read (length all) all)
commas_closed ends read R before found v items all left rest k m same next is on count so_far =
    at_end (λ xs ys. Behind before (AllZip R xs) ys) items (read_commas ends read) v k (suc m) left rest all count (commas_close ends read m left next (ap ends (sym is) ∙ on) ∙ ap (λ l. Some ([], l)) (sym is)) (subst (λ ys. SoFar (λ xs zs. Behind before (AllZip R xs) zs) (read_commas ends read) ys k left all) (sym same) so_far)

pub commas_end : {A X V : Type 0} (ends : List Tok → Bool) (read : Reader A) (R : A → X → Type 0) (before found : List X) (v : V) (items : V → List X) (all left rest : List Tok) (k n : ℕ) → items v ≡ found → at_sign (codes ",") left ≡ false → rest ≡ left → n + k ≡ length all → SoFar (λ xs ys. Behind before (AllZip R xs) ys) (read_commas ends read) found k left all → Gives (λ xs w. Behind before (AllZip R xs) (items w)) (Ok v) rest (read_commas ends read (length all) all)
commas_end ends read R before found v items all left rest k n same next is count so_far =
    at_end (λ xs ys. Behind before (AllZip R xs) ys) items (read_commas ends read) v k n left rest all count (commas_stop ends read n left next ∙ ap (λ l. Some ([], l)) (sym is)) (subst (λ ys. SoFar (λ xs zs. Behind before (AllZip R xs) zs) (read_commas ends read) ys k left all) (sym same) so_far)

-- the tokens behind a sign that may come
pub taken_is : {A : Type 0} (b c : Bool) (x y z : A) → c ≡ b → c ≡ true → z ≡ (if b then x else y) → z ≡ x
taken_is true c x y z e h k = k
taken_is false c x y z e h k = absurd (false≢true (sym e ∙ h))

pub left_is : {A : Type 0} (b c : Bool) (x y z : A) → c ≡ b → c ≡ false → z ≡ (if b then x else y) → z ≡ y
left_is false c x y z e h k = k
left_is true c x y z e h k = absurd (false≢true (sym h ∙ e))

zip_first : {A X : Type 0} (R : A → X → Type 0) (x : X) (a : A) (xs : List A) (ys : List X) → R a x → Behind (x ∷ []) (AllZip R xs) ys → AllZip R (a ∷ xs) ys
zip_first R x a xs [] r h = absurd h
zip_first R x a xs (y ∷ ys) r h = (subst (R a) (sym h.0) r, h.1)

-- a first item, and those behind commas
pub listed_gives : {A X V : Type 0} (ends : List Tok → Bool) (read : Reader A) (R : A → X → Type 0) (x : X) (before : List X) (r : Result V Stop) (items : V → List X) (toks mid rest : List Tok) → before ≡ x ∷ [] → Gives R (Ok x) mid (read toks) → Gives (λ xs w. Behind before (AllZip R xs) (items w)) r rest (read_further ends read mid) → Gives (λ xs w. AllZip R xs (items w)) r rest (read_listed ends read toks)
listed_gives ends read R x before (Ok v) items toks mid rest e h k =
    let a = given R x mid (read toks) h in
    let b = given (λ xs w. Behind before (AllZip R xs) (items w)) v rest (read_further ends read mid) k in
    rw (a.2, b.2) (zip_first R x a.0 b.0 (items v) a.1 (subst (λ l. Behind l (AllZip R b.0) (items v)) e b.1), refl)
listed_gives ends read R x before (Err e) items toks mid rest is h k =
    let a = given R x mid (read toks) h in
    gives_err e (read_further ends read mid) _ k (λ none. rw (a.2, none) refl)

-- what is read behind what was read
pub then_ok : {A B X Y : Type 0} (R : A → X → Type 0) (Q : B → Y → Type 0) (x : X) (r : Result Y Stop) (mid rest : List Tok) (o : Option (A × List Tok)) (f : A → Reader B) → Gives R (Ok x) mid o → ((a : A) → R a x → Gives Q r rest (f a mid)) → Gives Q r rest (then_read o f)
then_ok R Q x r mid rest None f h k = absurd h
then_ok R Q x r mid rest (Some p) f h k = subst (λ m. Gives Q r rest (f p.0 m)) h.1 (k p.0 h.0)

pub then_next : {A B X : Type 0} (R : A → X → Type 0) (x : X) (e : Stop) (mid : List Tok) (o : Option (A × List Tok)) (f : A → Reader B) → Gives R (Ok x) mid o → ((a : A) → FailsAs e (f a mid)) → FailsAs e (then_read o f)
then_next R x e mid None f h k = absurd h
then_next R x e mid (Some p) f h k = subst (λ m. FailsAs e (f p.0 m)) h.1 (k p.0)

pub then_err : {A B : Type 0} (e : Stop) (o : Option (A × List Tok)) (f : A → Reader B) → FailsAs e o → FailsAs e (then_read o f)
then_err e o f h = gives_err e o (then_read o f) h (λ none. rw none refl)

-- the same, seen in another value
pub gives_as : {A Y V W : Type 0} (P : A → Y → Type 0) (items : V → Y) (v : V) (items' : W → Y) (u : W) (left : List Tok) (o : Option (A × List Tok)) → items' u ≡ items v → Gives (λ a w. P a (items w)) (Ok v) left o → Gives (λ a w. P a (items' w)) (Ok u) left o
gives_as P items v items' u left None e h = absurd h
gives_as P items v items' u left (Some r) e h = (subst (P r.0) (sym e) h.0, h.1)
