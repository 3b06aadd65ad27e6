-- What clauses see of lines: the plain facts that they say by themselves, and the words that are left.
use Rattle.std.specs.Prelude.{ℕ, ◌==◌, List, [], ◌∷◌}
use Rattle.std.specs.List.{slice_split}
use Rattle.spoc_base.specs.Shown.{cidr_of, box_of}
use Rattle.device_reading.specs.Facts as plain
use Rattle.device_lines.specs.Alone.{port_named}
use Rattle.device_lines.specs.declared.command.End.{End}
use Rattle.device_lines.specs.declared.command.End.TheVariants as end
use Rattle.device_lines.specs.declared.command.Entry.{Entry}
use Rattle.device_lines.specs.declared.command.Command.{Command}
use Rattle.device_lines.specs.declared.command.Command.TheVariants as command

abbrev pub end_of : End → plain.End
end_of (end.Prefix p) = plain.OnePrefix (cidr_of p)
end_of (end.Group name) = plain.NamedGroup name.now []

abbrev pub entry_of : Entry → plain.Entry
entry_of e = record { permit = e.permit; src = end_of e.src; dst = end_of e.dst; box = box_of e.t }

abbrev pub fact_of : Command → plain.Fact
fact_of (command.Remark text) = plain.Remark text.now
fact_of (command.Route hardware net gateway) = plain.Sends (port_named hardware.now) (cidr_of net) gateway.0
fact_of (command.List name) = plain.OpensList name.now
fact_of (command.Entry list entry) = plain.HasEntry list.now (entry_of entry)
fact_of (command.Port hardware) = plain.OpensPort hardware.now
fact_of (command.Binding hardware list) = plain.Binds hardware.now list.now
fact_of (command.Group name) = plain.OpensGroup name.now
fact_of (command.Member prefix) = plain.HasMember [] (cidr_of prefix)

-- the words of what is left of a line, each with the space before it
abbrev pub words_of : List ℕ → List (List ℕ)
words_of [] = []
words_of (c ∷ text) = slice_split (λ b. b == 32) text
