mod BlockRanks
mod BlockRounds
mod BlockTurns
