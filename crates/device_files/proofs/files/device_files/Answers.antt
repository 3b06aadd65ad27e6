use Rattle.std.proofs.Common.{◌≡◌, ◌+◌, ◌++◌, ◌∷◌, [], ◌∙◌, ℕ, List, length, sym, ap, subst, arith}
use Rattle.std.specs.Prelude.{map, sum_by}
use Rattle.policy_model.specs.Lists.{numbers_below}
use Rattle.policy_model.specs.Policy.{is_managed}
use Rattle.dev_config.specs.Seen.{lines_of}
use Rattle.topology.specs.View.{policy_of}
use Rattle.policy_outcome.specs.Files.{config_for, file_for, files_of, lines_in, managed_in}
use Rattle.device_files.proofs.Numbers.{mapped_more, summed_more}
use Rattle.device_files.proofs.files.device_files.Goals as goal

pub loop-r-preserved : goal.loop-r-preserved
loop-r-preserved c =
    let p = policy_of c.args.topo in
    let lists = map lines_of c.args.lists.now in
    let r = c.loop-r.r in
    let count = λ (k : ℕ). lines_in (config_for p lists k) in
    record {
      files = c.in_ok-add_file.ensures.files
          ∙ (ap (λ (files : List (List ℕ × List ℕ)). files ++ files_of p lists (managed_in p (r ∷ []))) c.loop-r.invariant.files
          ∙ sym (mapped_more (λ k. file_for p k (config_for p lists k)) (is_managed p) r));
      lines = c.in_ok-add_file.ensures.lines
          ∙ (ap (λ (n : ℕ). n + sum_by count (managed_in p (r ∷ []))) c.loop-r.invariant.lines ∙ sym (summed_more count (is_managed p) r));
    }

pub returns-clause-lines : goal.returns-clause-lines
returns-clause-lines c =
    let p = policy_of c.args.topo in
    let lists = map lines_of c.args.lists.now in
    let all : c.loop-r.r ≡ length p.routers = omega (arith, c.loop-r-test.false, c.loop-r.auto.r-end, c.router_count-r-end.ensures) in
    subst (λ (n : ℕ). c.loop-r.lines ≡ sum_by (λ k. lines_in (config_for p lists k)) (managed_in p (numbers_below n))) all c.loop-r.invariant.lines
