use Rattle.std.proofs.Common.{arith}
use Rattle.fields.specs.Packing.{bytes_for}
use Rattle.sheets.proofs.model_bytes.Goals as goal

pub returns : goal.returns
unfolding bytes_for
returns c = omega (arith, c.div_ceil.ensures, c.model_bits.ensures.0)
