use mathlib.Core.Path.{sym, ap, ◌∙◌}
use lib.Ieee.{Float}
use Rattle.std.specs.Prelude.{Result}
use Rattle.seal.specs.declared.SealRefusal.{SealRefusal}
use Rattle.host.specs.Answers.{code_of}
use Rattle.host.specs.Bags.{handed}
use Rattle.host.proofs.hand_out.Goals as goal

pub returns-in-Ok : goal.returns-in-Ok
returns-in-Ok c =
    let old = c.args.pull.now in
    record {
      value = c.code.ensures ∙ ap code_of c.answer-answer.ensures;
      pull_after = c.copy_in.ensures.dst_after ∙ rw (c.le_bytes64-bytes.ensures, c.bits_of.ensures) (ap (λ (y : Result Float SealRefusal). handed y old) (sym c.in-Ok.is));
    }

pub returns-in-Err : goal.returns-in-Err
returns-in-Err c =
    let old = c.args.pull.now in
    record {
      value = c.code-in-Err.ensures ∙ ap code_of c.answer-answer.ensures;
      pull_after = ap (λ (y : Result Float SealRefusal). handed y old) (sym c.in-Err.is);
    }
