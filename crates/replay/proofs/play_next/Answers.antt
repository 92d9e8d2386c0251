-- Each return is the turn of what stands next, written from the start of the page; and the page has room, by its length, so all of its text is there.
use Rattle.std.proofs.Common.{◌≡◌, ℕ, List, sym, ap, subst, ◌∙◌, arith, length}
use Rattle.std.specs.Prelude.{Ok, Some, None}
use Rattle.text.specs.Pen.{Pen, pen, Rendered}
use Rattle.text.proofs.PenLaws.{start, rendered}
use Rattle.replay.specs.declared.State.{State}
use Rattle.replay.specs.Tape.{Turn, Next, next_turn, Plays}
use Rattle.replay.proofs.TurnLaws.{plays_as, nowhere, plays, plays_broken}
use Rattle.replay.proofs.play_next.Goals as goal

-- a turn that began on a page that was cleared
from_start : {u : Turn} {t r : List ℕ} {p q : Pen} {s : State} (m : List ℕ) → p ≡ pen m 0 → Plays u t r p q s → Plays u t r (pen m 0) q s
from_start {u} {t} {r} {p} {q} {s} m e h = subst (λ (x : Pen). Plays u t r x q s) e h

whole : {u : Turn} {t r : List ℕ} {q : Pen} {s : State} (m : List ℕ) → length m ≡ 219136 → Plays u t r (pen m 0) q s → Rendered u.text m q.page q.at
whole m e h = rendered (omega (arith, e)) h.text

pub returns-in-Ok-Some : goal.returns-in-Ok-Some
unfolding next_turn
returns-in-Ok-Some c =
    let q = c.in-Ok-Some in
    let some : q.field-0 ≡ Some q.e = rw q.is at q.field-0-is in
    let m = c.args.page.now.page in
    let played = from_start m c.clear.ensures.cleared (plays_as (ap (λ (y : Next). next_turn y c.args.buffer.now c.args.table.now c.args.roll.now c.args.state) (sym (q.is ∙ ap Ok some))) c.run.ensures) in record {
      plays = played;
      text = whole m c.clear.ensures.room played;
    }

pub returns-in-Ok-None : goal.returns-in-Ok-None
unfolding next_turn
returns-in-Ok-None c =
    let q = c.in-Ok-None in
    let none : q.field-0 ≡ None = rw q.is at q.field-0-is in
    let m = c.args.page.now.page in
    let played = from_start m c.clear.ensures.cleared (plays_as (ap (λ (y : Next). next_turn y c.args.buffer.now c.args.table.now c.args.roll.now c.args.state) (sym (q.is ∙ ap Ok none))) (plays (omega arith) c.nothing.ensures (nowhere _ _ _) (start c.clear.new.self))) in record {
      plays = played;
      text = whole m c.clear.ensures.room played;
    }

pub returns-in-Err : goal.returns-in-Err
unfolding next_turn
returns-in-Err c =
    let m = c.args.page.now.page in
    let played = from_start m c.clear.ensures.cleared (plays_as (ap (λ (y : Next). next_turn y c.args.buffer.now c.args.table.now c.args.roll.now c.args.state) (sym c.in-Err.is)) (plays_broken c.break_off.ensures.state_value c.break_off.ensures.wrote)) in record {
      plays = played;
      text = whole m c.clear.ensures.room played;
    }
