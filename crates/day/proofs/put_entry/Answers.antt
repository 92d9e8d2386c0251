use Prim.Native.Nat.{ℕ}
use mathlib.Core.Path.{ap, ◌∙◌}
use native.Mathlib.Omega.{arith}
use Rattle.text.proofs.PenLaws.{then, text_as}
use Rattle.day.specs.Lines.{enter_line}
use Rattle.day.proofs.LineLaws.{enter_as}
use Rattle.day.proofs.put_entry.Goals as goal

pub returns : goal.returns
unfolding enter_line
returns c =
    text_as (omega arith) (enter_as _ _ ∙ ap (λ (x : ℕ). enter_line x c.args.ok) c.index.ensures)
    (then c.put.ensures (then c.put_count.ensures (then c.put_yes_or_no.ensures c.put-2.ensures)))
