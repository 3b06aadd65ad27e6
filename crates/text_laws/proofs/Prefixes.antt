-- Words that begin with an end, or with ports, begin so in one way.
use Rattle.std.proofs.Common.{◌≡◌, ◌∙◌, sym, ap, ℕ, ◌<◌, ◌^◌, List, ◌++◌}
use Rattle.spoc_base.specs.Address.{Interval}
use Rattle.spoc_base.specs.declared.dialect.Dialect.{Dialect}
use Rattle.acl_print.specs.Words.{dotted}
use Rattle.device_reading.specs.Facts.{End, Fact}
use Rattle.spoc_base.specs.PlainSets.{IsPorts}
use Rattle.device_reading.specs.Grammar.{IsEnd, members_of}
use Rattle.text_laws.proofs.Numerals.{address_in, address_told}
use Rattle.text_laws.proofs.EntryWords.{end_words, port_words}
use Rattle.text_laws.proofs.EntryRead.{take_end, end_told, take_ports, IsNoPort, ports_told}

pub address_unique : (a b : ℕ) → a < 2 ^ 32 → b < 2 ^ 32 → dotted a ≡ dotted b → a ≡ b
address_unique a b h k e = sym (address_told a h) ∙ ap address_in e ∙ address_told b k

pub end_unique : (dialect : Dialect) (above : List Fact) (e f : End) (r s : List (List ℕ)) → IsEnd dialect above e → IsEnd dialect above f → end_words dialect e ++ r ≡ end_words dialect f ++ s → (e ≡ f) × (r ≡ s)
end_unique dialect above e f r s h k same =
    let both = sym (end_told dialect above e r h) ∙ ap (take_end dialect (λ name. members_of name above)) same ∙ end_told dialect above f s k in
    (ap (λ (p : End × List (List ℕ)). p.0) both, ap (λ (p : End × List (List ℕ)). p.1) both)

pub ports_unique : (p q : Interval) (r s : List (List ℕ)) → IsPorts p → IsPorts q → IsNoPort r → IsNoPort s → port_words p ++ r ≡ port_words q ++ s → (p ≡ q) × (r ≡ s)
ports_unique p q r s h k m n same =
    let both = sym (ports_told p r h m) ∙ ap take_ports same ∙ ports_told q s k n in
    (ap (λ (t : Interval × List (List ℕ)). t.0) both, ap (λ (t : Interval × List (List ℕ)). t.1) both)
