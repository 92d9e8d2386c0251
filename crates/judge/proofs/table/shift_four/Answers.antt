use mathlib.Core.Path.{◌≡◌}
use mathlib.Core.List.{List}
use Prim.Native.Nat.{ℕ, ◌+◌, ◌-◌, ◌≤◌}
use native.Mathlib.Omega.{arith}
use borrow.Rule.Slice.PartMut.{put_mid}
use lib.ListN.{length, take, drop}
use Rattle.std.specs.List.{copy_within}
use Rattle.ledger.specs.Rows.{shifted}
use Rattle.ledger.proofs.RowLaws.{shifted_four}
use Rattle.judge.proofs.table.shift_four.Goals as goal

-- the part that is lent has 160 bytes
lent : (t u : List ℕ) (at : ℕ) → at + 160 ≤ length t → u ≡ copy_within (take (at + 160 - at) (drop at t)) 0 128 32 → put_mid at (at + 160 - at) t u ≡ shifted t at (at + 128)
lent t u at room e =
    let k : at + 160 - at ≡ 160 = omega arith in
    rw (e, k) (shifted_four t at room)

pub returns : goal.returns
returns c = let a = c.args in lent a.table.now c.copy_within.new.self a.at c.requires c.copy_within.ensures.after
