use Rattle.std.proofs.Common.{ℕ, ◌+◌, ap, ◌∙◌, arith, rules}
use Rattle.packing.specs.Packing.{bytes_verdict}
use Rattle.packing.proofs.SizeLaws.{total_below}
use Rattle.packing.proofs.VerdictLaws.{line_number, line_word, line_length, line_bytes}
use Rattle.packing.proofs.line_verdict.Goals as goal

pub returns-then-k-kind : goal.returns-then-k-kind
returns-then-k-kind c = line_number _ _ _ _ _ c.first_unfit-k.ensures c.if-k-kind.true

pub returns-then-k-kind-2 : goal.returns-then-k-kind-2
returns-then-k-kind-2 c = line_word _ _ _ _ _ c.first_unfit-k.ensures c.if-k-kind.false c.if-k-kind-2.true

pub returns-then-k-kind-3 : goal.returns-then-k-kind-3
returns-then-k-kind-3 c = line_length _ _ _ _ _ c.first_unfit-k.ensures c.if-k-kind.false c.if-k-kind-2.false c.if-k-kind-3.true

pub bytes_verdict-requires : goal.bytes_verdict-requires
bytes_verdict-requires c =
    let a = c.args in record {
      cases_bound = search rules;
      named_bound = omega (arith, c.named_bytes.ensures, total_below a.cases (a.kind + 3) a.line.now);
    }

pub returns : goal.returns
returns c =
    let a = c.args in
    c.bytes_verdict.ensures ∙ ap (λ (x : ℕ). bytes_verdict a.cases x a.there) c.named_bytes.ensures
    ∙ line_bytes _ _ _ _ _ c.first_unfit-k.ensures c.if-k-kind.false c.if-k-kind-2.false c.if-k-kind-3.false
