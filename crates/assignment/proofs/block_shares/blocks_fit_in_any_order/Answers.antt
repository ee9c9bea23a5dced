use Rattle.assignment.specs.BlockDuties.{blocks_fit}
use Rattle.assignment.specs.BlockOrder.{by_remainder_proper}
use Rattle.assignment.proofs.block_shares.blocks_fit_in_any_order.Goals as goal

pub returns : goal.returns
returns c = (blocks_fit, by_remainder_proper)
