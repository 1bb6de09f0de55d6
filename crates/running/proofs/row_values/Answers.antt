use Rattle.running.proofs.CountLaws.{few-rows}
use borrow.Author.Rules.{rules}
use Rattle.running.proofs.row_values.Goals as goal

pub overflow_mul-result : goal.overflow_mul-result
overflow_mul-result c = let h = few-rows _ c.requires in let e = c.row_count.ensures in search (rules, h, e)
