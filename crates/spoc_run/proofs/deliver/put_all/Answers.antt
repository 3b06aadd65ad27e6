use Rattle.std.proofs.Common.{◌≡◌, ◌<◌, map, get_or, length, ◌∙◌, sym, ap, arith}
use Rattle.std.proofs.lemmas.List.{get_or-map, length-map}
use Rattle.std.proofs.lemmas.Result.{err_from_is_err_and}
use Rattle.device_files.specs.Seen.{file_of}
use Rattle.spoc_run.proofs.Putting.{told_more, told_part}
use Rattle.spoc_run.proofs.deliver.put_all.Goals as goal

pub returns-in_err-put-clause-err : goal.returns-in_err-put-clause-err
returns-in_err-put-clause-err g c =
    let files = map file_of c.args.files.now in
    let k = c.loop-file.file-index in
    let file = file_of c.file-item.result in
    let inside : k < length files = omega (arith, c.loop-file-test.true, length-map c.args.files.now file_of) in
    let is : get_or files k file ≡ file = get_or-map file_of c.args.files.now k c.file-item.result file c.loop-file-test.true ∙ ap file_of (sym c.file-item.is) in
    let p = err_from_is_err_and c.from_residual.result c.from_residual.ensures.1 in
    rw p.1 (told_part files k file _ _ _ c.requires inside is c.loop-file.invariant.put (rw (c.bytes.ensures, c.bytes-in-loop-file.ensures) at c.in_err-put.ensures.err))

pub loop-file-preserved : goal.loop-file-preserved
loop-file-preserved g c =
    let files = map file_of c.args.files.now in
    let k = c.loop-file.file-index in
    let file = file_of c.file-item.result in
    let inside : k < length files = omega (arith, c.loop-file-test.true, length-map c.args.files.now file_of) in
    let is : get_or files k file ≡ file = get_or-map file_of c.args.files.now k c.file-item.result file c.loop-file-test.true ∙ ap file_of (sym c.file-item.is) in
    record {
      put = told_more files k file _ _ _ c.requires inside is c.loop-file.invariant.put (rw (c.bytes.ensures, c.bytes-in-loop-file.ensures) at c.in_ok-put.ensures.ok);
      later = omega (arith, c.loop-file.invariant.later, c.put.ensures.cause.later);
    }
