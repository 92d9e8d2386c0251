use Rattle.day.specs.Lines.{entries}
use Rattle.day.proofs.entries.Goals as goal

pub returns : goal.returns
unfolding entries
returns c = rw (c.entry_at.ensures, c.entry_at-2.ensures, c.entry_at-3.ensures, c.entry_at-4.ensures, c.entry_at-5.ensures, c.entry_at-6.ensures, c.entry_at-7.ensures)
