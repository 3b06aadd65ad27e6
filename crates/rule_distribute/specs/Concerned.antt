-- The pairs of networks on which what is placed depends.
use Rattle.std.specs.Prelude.{ℕ, Bool, not, ◌&&◌, ◌==◌, List, filter}
use Rattle.policy_model.specs.Lists.{pairs_of}
use Rattle.policy_model.specs.Policy.{all_nets}
use Rattle.policy_model.specs.Zones.{Site, zone_of}
use Rattle.policy_model.specs.Tags.{Views}
use Rattle.policy_model.specs.Permits.{Permit}
use Rattle.policy_model.specs.Blocks.{NetPair, is_concerned}

-- networks of different zones that a permit joins, or that lie inside such a pair as some zone sees them
abbrev pub is_concerned_pair : Site → Views → List Permit → NetPair → Bool
is_concerned_pair s v permits e = not (zone_of s e.src == zone_of s e.dst) && is_concerned s v permits e

-- all of them, by source and then by destination
abbrev pub concerned_pairs : Site → Views → List Permit → List (ℕ × ℕ)
concerned_pairs s v permits =
    filter (λ e. is_concerned_pair s v permits (record { src = e.0; dst = e.1 })) (pairs_of (all_nets s.policy) (all_nets s.policy))
