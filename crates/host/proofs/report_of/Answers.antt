use mathlib.Core.Path.{◌≡◌, refl, ap, ◌∙◌}
use native.Mathlib.Omega.{arith}
use lib.ListN.{length}
use Rattle.octets.proofs.NumberLaws.{little_bytes_length, little_bytes_mod}
use Rattle.octets.proofs.Joining.{start, next, done}
use Rattle.host.specs.Bags.{report_of}
use borrow.Author.Rules.{rules}
use Rattle.host.proofs.report_of.Goals as goal

pub returns : goal.returns
unfolding report_of
returns c =
    let behind_long : length c.answer_bytes-answers.result ≡ 28 = search rules in
    let hc : length c.le_bytes32-count.result ≡ 4 = ap length c.le_bytes32-count.ensures ∙ little_bytes_length 4 _ in
    let hb : length c.answer_bytes-answers.result ≡ 28 = behind_long in
    let l1 = next c.le_bytes32-count.result _ 4 28 (omega arith) (omega arith) c.copy_in.ensures.dst_after (start _ 32 refl) in
    done (next c.answer_bytes-answers.result _ 32 0 (omega arith) (omega arith) c.copy_in-2.ensures.dst_after l1)
    ∙ rw (c.le_bytes32-count.ensures, little_bytes_mod 4 c.args.scanned.cases, c.answer_bytes-answers.ensures)
