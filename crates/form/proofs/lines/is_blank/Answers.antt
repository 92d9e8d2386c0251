use mathlib.Core.Logic.{⊎_elim}
use Rattle.std.proofs.Common.{arith, ne_eqb}
use Rattle.form.specs.Lines.{is_blank}
use Rattle.form.proofs.lines.is_blank.Goals as goal

pub returns-in-32 : goal.returns-in-32
unfolding is_blank
returns-in-32 c = ⊎_elim (λ e. rw e) (λ r. ⊎_elim (λ e. rw e) (λ e. rw e) r) c.in-32.is

pub returns-in_default : goal.returns-in_default
unfolding is_blank
returns-in_default c = rw (ne_eqb c.args.x 32 (λ e. grind arith), ne_eqb c.args.x 9 (λ e. grind arith), ne_eqb c.args.x 13 (λ e. grind arith))
