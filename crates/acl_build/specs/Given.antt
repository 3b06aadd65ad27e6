-- What is known of a block.
use Rattle.std.specs.Prelude.{ℕ, ◌<◌, length}
use Rattle.std.specs.List.{All}
use Rattle.policy_model.specs.Policy.{Policy}
use Rattle.policy_model.specs.Blocks.{Block}

-- The networks and the permits of the block are there.
pub record IsBlock (p : Policy) (count : ℕ) (b : Block) : Type 0 where
  pub src : b.pair.src < length p.nets
  pub dst : b.pair.dst < length p.nets
  pub forward : All (λ k. k < count) b.forward
  pub mirrored : All (λ k. k < count) b.mirrored
