use Rattle.std.proofs.Common.{sym, ◌∙◌}
use Rattle.packing.specs.Seals.{kind_named, gate_kind}
use Rattle.packing.proofs.kind_named.Goals as goal

pub returns-then-same : goal.returns-then-same
unfolding gate_kind kind_named
returns-then-same c = sym (rw (sym c.same.ensures ∙ c.if-same.true))

pub returns-then-same-2 : goal.returns-then-same-2
unfolding gate_kind kind_named
returns-then-same-2 c = sym (rw (sym c.same.ensures ∙ c.if-same.false, sym c.same-2.ensures ∙ c.if-same-2.true))

pub returns-then-same-3 : goal.returns-then-same-3
unfolding gate_kind kind_named
returns-then-same-3 c = sym (rw (sym c.same.ensures ∙ c.if-same.false, sym c.same-2.ensures ∙ c.if-same-2.false, sym c.same-3.ensures ∙ c.if-same-3.true))

pub returns : goal.returns
unfolding gate_kind kind_named
returns c = sym (rw (sym c.same.ensures ∙ c.if-same.false, sym c.same-2.ensures ∙ c.if-same-2.false, sym c.same-3.ensures ∙ c.if-same-3.false))
