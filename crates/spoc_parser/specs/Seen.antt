-- The trees of the code, as plain trees.
use Rattle.std.specs.Prelude.{◌≡◌, ◌+◌, ℕ, zero, suc, Bool, List, [], ◌∷◌, ◌++◌, length, map, Option, Some, None, Result, Ok, Err}
use Rattle.std.specs.List.{AllZip}
use Rattle.spoc_lexer.specs.Tokens.{Tok}
use Rattle.spoc_lexer.specs.Seen.{seen}
use Rattle.spoc_lexer.specs.declared.token.Token.{Token}
use Rattle.spoc_ast.specs.declared.word.Word.{Word}
use Rattle.spoc_ast.specs.declared.word.PortName.{PortName}
use Rattle.spoc_ast.specs.declared.set.SetTree.{SetTree, out-SetTree}
use Rattle.spoc_ast.specs.declared.set.InterTree.{InterTree, out-InterTree}
use Rattle.spoc_ast.specs.declared.set.FurtherTree.{FurtherTree}
use Rattle.spoc_ast.specs.declared.set.TermTree.{TermTree}
use Rattle.spoc_ast.specs.declared.set.TermTree.TheVariants.{Network, Host, Port, Group, Aggregate, Area, User, Nets, Hosts, Anys}
use Rattle.spoc_parser.specs.declared.fail.Stop.{Stop}
use Rattle.spoc_parser.specs.declared.fail.Stop.TheVariants.{Unread, Memory}
use Rattle.spoc_parser.specs.Trees.{Lexeme, PortItem, TermOf, network, host, port, group, aggregate, area, user, nets, hosts, anys, InterOf, SetOf, SetIn, TermIn}
use Rattle.spoc_parser.specs.Readers.{Reader}

abbrev pub toks_of : List Token → List Tok
toks_of tokens = map seen tokens

-- a word of the file: where it stands, and its bytes
abbrev pub IsWord : ℕ → Lexeme → Word → Type 0
IsWord file lexeme word = (word.span.file ≡ file) × (word.span.start ≡ lexeme.start) × (word.span.«end» ≡ lexeme.start + length lexeme.text) × (word.text.now ≡ lexeme.text)

abbrev pub IsPort : ℕ → PortItem → PortName → Type 0
IsPort file item place = IsWord file item.router place.router × IsWord file item.net place.net

-- none for none, and one that R holds of for one
abbrev pub IsPerhaps : {A X : Type 0} → (A → X → Type 0) → Option A → Option X → Type 0
IsPerhaps R None None = Unit {0}
IsPerhaps R None (Some x) = ⊥
IsPerhaps R (Some a) None = ⊥
IsPerhaps R (Some a) (Some x) = R a x

abbrev pub IsTermOf : {S : Type 0} → ℕ → (S → SetTree → Type 0) → TermOf S → TermTree → Type 0
IsTermOf file R (network name) (Network word) = IsWord file name word
IsTermOf file R (host name) (Host word) = IsWord file name word
IsTermOf file R (port item) (Port place) = IsPort file item place
IsTermOf file R (group name) (Group word) = IsWord file name word
IsTermOf file R (aggregate name) (Aggregate word) = IsWord file name word
IsTermOf file R (area name) (Area word) = IsWord file name word
IsTermOf file R user User = Unit {0}
IsTermOf file R (nets set) (Nets tree) = R set tree
IsTermOf file R (hosts set) (Hosts tree) = R set tree
IsTermOf file R (anys inside set) (Anys word tree) = IsPerhaps (IsWord file) inside word × R set tree
IsTermOf file R term tree = ⊥

abbrev pub IsFurther : {T : Type 0} → (T → TermTree → Type 0) → Bool × T → FurtherTree → Type 0
IsFurther R f tree = (tree.without ≡ f.0) × R f.1 tree.term

abbrev pub IsInter : {T : Type 0} → (T → TermTree → Type 0) → InterOf T → InterTree → Type 0
IsInter R i tree = R i.0 (out-InterTree tree).first × AllZip (IsFurther R) i.1 (out-InterTree tree).rest.now

abbrev pub IsSet : {T : Type 0} → (T → TermTree → Type 0) → SetOf T → SetTree → Type 0
IsSet R set tree = AllZip (IsInter R) set (out-SetTree tree).inters.now

abbrev pub IsNone : ⊥ → SetTree → Type 0
IsNone none tree = ⊥

abbrev pub IsSetIn : ℕ → (depth : ℕ) → SetIn depth → SetTree → Type 0
IsSetIn file zero = IsNone
IsSetIn file (suc depth) = IsSet (IsTermOf file (IsSetIn file depth))

abbrev pub IsTerm : ℕ → (depth : ℕ) → TermIn depth → TermTree → Type 0
IsTerm file depth = IsTermOf file (IsSetIn file depth)

-- there is nothing to be read, unless memory ran out
abbrev pub FailsAs : {A : Type 0} → Stop → Option A → Type 0
FailsAs Unread None = Unit {0}
FailsAs Unread (Some r) = ⊥
FailsAs Memory o = Unit {0}

-- what was read is what the definition reads, and so is what is left, unless memory ran out
abbrev pub Gives : {A X : Type 0} → (A → X → Type 0) → Result X Stop → List Tok → Option (A × List Tok) → Type 0
Gives R (Ok x) left (Some r) = R r.0 x × (left ≡ r.1)
Gives R (Ok x) left None = ⊥
Gives R (Err e) left o = FailsAs e o

-- the list begins with these items, and P holds of the others
abbrev pub Behind : {X : Type 0} → List X → (List X → Type 0) → List X → Type 0
Behind [] P ys = P ys
Behind (x ∷ xs) P [] = ⊥
Behind (x ∷ xs) P (y ∷ ys) = (y ≡ x) × Behind xs P ys

-- what was read before, and then this
abbrev pub after : {A : Type 0} → List A → Option (List A × List Tok) → Option (List A × List Tok)
after xs None = None
after xs (Some r) = Some (xs ++ r.0, r.1)

-- Some items were read, k of them from these tokens, and what is left goes on from there.
abbrev pub SoFar : {A X : Type 0} → (List A → List X → Type 0) → (ℕ → Reader (List A)) → List X → ℕ → List Tok → List Tok → Type 0
SoFar {A} R read found k left all = (xs : List A) × R xs found × ((n : ℕ) → after xs (read n left) ≡ read (n + k) all)
