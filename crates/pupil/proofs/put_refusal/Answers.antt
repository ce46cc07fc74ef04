-- `pupil::put_refusal` meets its contract. Assumes nothing.
use Prim.Native.Nat.{◌<◌}
use borrow.Author.Rules.{rules}
use lib.ListN.{length}
use Rattle.lines.proofs.Adds.{adds_then}
use Rattle.marks.proofs.Lengths.{marked_fits}
use Rattle.pupil.specs.Shows.{shown_refusal}
use Rattle.pupil.proofs.Short.{short_refusal}
use Rattle.pupil.proofs.put_refusal.Goals as goal

pub returns : goal.returns
unfolding shown_refusal
returns c =
    let few : length c.args.text.now < 18446744073709551615 = search rules in
    record { added = adds_then (adds_then c.put_where-a.ensures c.put_why-b.ensures.added) c.put_byte.ensures; short = short_refusal _ c.args.text.now c.args.r.why c.args.r.place c.args.n few (marked_fits _ c.args.text.now c.args.r.place) c.put_why-b.ensures.short }
