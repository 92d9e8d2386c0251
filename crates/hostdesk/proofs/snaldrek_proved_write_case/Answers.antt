use mathlib.Core.Path.{◌∙◌}
use Rattle.hostdesk.proofs.snaldrek_proved_write_case.Goals as goal

pub returns : goal.returns
returns c =
    let w = c.write.ensures in
    record {
      value = c.code.ensures ∙ rw (c.from.ensures, w.value);
      buffer_after = w.buffer_after;
    }
