-- A status is decided by files: by those of the policy that was read, or by a file that is too large, or by none.
use Rattle.std.proofs.Common.{◌≡◌, true, false, map, refl, arith}
use Rattle.device_files.specs.Seen.{file_of}
use Rattle.fault_text.specs.Texts.{pair_of}
use Rattle.spoc_run.specs.Answer.{bytes_of_message}
use Rattle.spoc_run.specs.Decided.{AnswersSources}
use Rattle.spoc_run.specs.Outcome.{is_compile}
use Rattle.spoc_run.proofs.Answering.{decided_usage, decided_sources, decided_fail}
use Rattle.spoc_run.proofs.top.decide.Goals as goal

pub returns-then-not-is_compile-clause-decided : goal.returns-then-not-is_compile-clause-decided
returns-then-not-is_compile-clause-decided g c =
    let other : is_compile c.args.words.now ≡ false = grind (arith, c.is_compile.ensures, c.if-not-is_compile.true) in
    rw (c.plain.ensures.status, c.plain.ensures.text)
    (decided_usage c.args.words.now (g.P.Folder.files c.args.policy.now) _ _ _ _ (map file_of c.plain.result.files) other refl c.plain.ensures.names)

pub returns-in-Ok-clause-decided : goal.returns-in-Ok-clause-decided
returns-in-Ok-clause-decided g c =
    let match : is_compile c.args.words.now ≡ true = grind (arith, c.is_compile.ensures, c.if-not-is_compile.false) in
    let sources = map pair_of c.in-Ok.sources.items in
    let answers : AnswersSources sources c.answer_for_sources.result.status (bytes_of_message c.answer_for_sources.result.text) (map file_of c.answer_for_sources.result.files) =
    rw c.deref.ensures.value at c.answer_for_sources.ensures in
    decided_sources c.args.words.now (g.P.Folder.files c.args.policy.now) _ _ _ _ match sources c.in-Ok.ensures.sources c.in-Ok.ensures.own c.in-Ok.ensures.fits
    _ _ _ answers c.in-Ok.ensures.cause.stays

pub returns-in-Err-clause-decided : goal.returns-in-Err-clause-decided
returns-in-Err-clause-decided g c =
    let match : is_compile c.args.words.now ≡ true = grind (arith, c.is_compile.ensures, c.if-not-is_compile.false) in
    decided_fail c.args.words.now (g.P.Folder.files c.args.policy.now) _ _ _ _ match c.in-Err.fail c.in-Err.ensures.cause c.in-Err.ensures.large c.in-Err.ensures.named
    _ _ _ c.answer_for_fail.ensures
