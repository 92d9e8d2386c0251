use Rattle.std.proofs.Common.{sym, ◌∙◌, arith}
use Rattle.text.proofs.PenLaws.{text_as}
use Rattle.packing.proofs.TextLaws.{kind_of, text_of_kind, text_of_none}
use Rattle.packing.proofs.put_text.Goals as goal

pub put_packed-requires : goal.put_packed-requires
put_packed-requires c = (kind_of _ _ (sym c.kind_named.ensures ∙ c.in-Some.is)).1

pub returns-in-Some : goal.returns-in-Some
returns-in-Some c = text_as (omega arith) (text_of_kind _ _ _ c.word.ensures _ (sym c.kind_named.ensures ∙ c.in-Some.is)) c.put_packed.ensures

pub returns-in-None : goal.returns-in-None
returns-in-None c = text_as (omega arith) (text_of_none _ _ _ c.word.ensures (sym c.kind_named.ensures ∙ c.in-None.is)) c.put_error.ensures
