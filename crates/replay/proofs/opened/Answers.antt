use Rattle.std.proofs.Common.{ℕ, List, ap, ◌∙◌}
use Rattle.refusals.specs.Rules.{first}
use Rattle.ledger.specs.Ledgers.{open_refusals, opened_of, roll_after_open}
use Rattle.replay.proofs.opened.Goals as goal

pub returns : goal.returns
returns c =
    let e = c.fill-2.ensures.after (λ y h. h) in
    record {
      answer_value = c.«open».ensures.answer_value ∙ ap (λ (l : List ℕ). first (open_refusals l)) e;
      ledger_value = c.«open».ensures.ledger_value ∙ ap opened_of e;
      table_after = c.fill.ensures.after (λ y h. h);
      roll_after = c.«open».ensures.roll_after ∙ ap roll_after_open e;
    }
