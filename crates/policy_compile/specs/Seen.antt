-- What clauses see of what was compiled.
use Rattle.std.specs.Prelude.{ℕ, ◌<◌, ◌==◌, Bool, List, map, length, slice_index}
use Rattle.std.specs.List.{All}
use Rattle.policy_model.specs.Permits as plain
use Rattle.permit_set.specs.declared.permit.Permit.{Permit}
use Rattle.device_files.specs.Seen.{file_of}
use Rattle.policy_outcome.specs.Outcome.{Counts, Written}
use Rattle.policy_compile.specs.declared.compiled.Summary.{Summary}
use Rattle.policy_compile.specs.declared.compiled.Compiled.{Compiled}

abbrev pub counts_of : Summary → Counts
counts_of s = record { networks = s.networks; zones = s.zones; routers = s.routers; permits = s.permits; local = s.local; lines = s.lines; routes = s.routes }

abbrev pub written_of : Compiled → Written
written_of c = record { files = map file_of c.files; counts = counts_of c.summary }

-- the networks of all permits have zones
abbrev pub AreZoned : List ℕ → List Permit → Type 0
AreZoned zones permits = All (λ q. (q.src.net.0 < length zones) × (q.dst.net.0 < length zones)) permits

-- both ends of the permit are in one zone
abbrev pub is_within : List ℕ → plain.Permit → Bool
is_within zones q = slice_index zones q.src.net == slice_index zones q.dst.net
