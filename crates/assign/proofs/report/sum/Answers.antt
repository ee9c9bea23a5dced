use Rattle.std.proofs.Common.{◌∙◌, arith}
use Rattle.std.proofs.lemmas.Iterator.{YieldsList-from_slice}
use Rattle.std.proofs.lemmas.Iterator.Consumers.{fits_from_yields_list, sum_from_yields_List}
use Rattle.assign.proofs.Sums.{sum_is_sum_of}
use Rattle.assign.proofs.report.sum.Goals as goal

pub sum-requires-clause-fits : goal.sum-requires-clause-fits
sum-requires-clause-fits c = fits_from_yields_list _ _ (YieldsList-from_slice c.args.amounts.now (cc)) (omega (arith, sum_is_sum_of c.args.amounts.now, c.requires))

pub returns : goal.returns
returns c = sum_from_yields_List _ _ c.sum.ensures.ran (YieldsList-from_slice c.args.amounts.now (cc)) ∙ sum_is_sum_of c.args.amounts.now
