use Rattle.std.proofs.Common.{◌≡◌, ◌*◌, ◌+◌, ◌-◌, sym, ap, ◌∙◌, map, get_or, length-take-le, get_or-take, arith}
use Rattle.std.proofs.lemmas.List.{get_or-map}
use borrow.Rule.Slice.PartMut.{put_mid}
use Rattle.fields.proofs.PlaceLaws.{puts_none}
use Rattle.values.specs.Values.{bytes_at}
use Rattle.values.proofs.ValueLaws.{value-put}
use Rattle.values.proofs.put_values.Goals as goal

pub loop-i-init : goal.loop-i-init
loop-i-init g c = puts_none 0 (bytes_at (map g.V.Value.worth c.args.values.now)) c.args.bytes.now

pub loop-i-preserved : goal.loop-i-preserved
loop-i-preserved g c =
    let worth = g.V.Value.worth in
    let vs = c.args.values.now in
    let i = c.loop-i.i in
    let v = c.v-item.result in
    let n = length-take-le c.args.n vs c.requires.given in
    let q : worth v ≡ get_or (map worth vs) i 0 = ap worth (c.v-item.is ∙ get_or-take _ vs i v (omega arith)) ∙ sym (get_or-map worth vs i v 0 (omega (arith, c.requires.given))) in
    ap (put_mid (i * 4) (i * 4 + 4 - i * 4) c.loop-i.bytes) (c.copy_from_slice.ensures.after ∙ c.bytes.ensures)
    ∙ value-put (map worth vs) i (worth v) c.args.bytes.now (omega (arith, c.requires.room)) q c.loop-i.invariant
