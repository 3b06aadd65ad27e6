use Rattle.std.proofs.Common.{◌∙◌, [], length, slice_index_or, sym, ap}
use Rattle.std.specs.Prelude.{map}
use Rattle.policy_model.specs.Tags.{ifaces_of}
use Rattle.acl_print.specs.Seen.{port_seen}
use Rattle.dev_config.specs.Seen.{lines_of}
use Rattle.topology.specs.View.{policy_of}
use Rattle.policy_outcome.specs.Files.{port_of, as_written}
use Rattle.device_files.proofs.Numbers.{equally_long}
use Rattle.device_files.proofs.files.file.Goals as goal

pub print-requires : goal.print-requires
print-requires c =
    let p = policy_of c.args.topo in
    record {
      lists = ap length c.deref-2.ensures.value
          ∙ (equally_long lines_of port_seen (λ i. as_written p i (slice_index_or (map lines_of c.args.lists.now) i [])) (port_of p) c.in_ok-own.own.items c.in_ok-ports.ports.items
          (ifaces_of p c.args.r.0) c.in_ok-own.ensures c.in_ok-ports.ensures ∙ sym (ap length c.deref-3.ensures.value));
    }
