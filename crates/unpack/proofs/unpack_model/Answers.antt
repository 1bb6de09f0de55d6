use Rattle.fields.proofs.RefusalLaws.{handed_on, number-ne0}
use Rattle.unpack.proofs.UnpackLaws.{refuses, unpacks}
use Rattle.unpack.proofs.unpack_model.Goals as goal

pub returns-in_err-shape : goal.returns-in_err-shape
returns-in_err-shape c = rw (handed_on c.from_residual.result c.from_residual.ensures.1) (refuses c.args.sheet.now c.in_err-shape.ensures.judged (number-ne0 _))

pub returns : goal.returns
returns c = unpacks c.args.sheet.now c.in_ok-shape.ensures.judged c.read_model.ensures
