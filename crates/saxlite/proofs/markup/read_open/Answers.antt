use Rattle.saxlite.proofs.Telling.{open-told}
use Rattle.saxlite.proofs.markup.read_open.Goals as goal

pub returns : goal.returns
returns c = open-told _ _ c.requires c.begin_at-begun.ensures c.if-end-start.false c.tag_noting-tag.ensures.ending c.tag_noting-tag.ensures.noted c.in_ok-ending.was c.cursor_past.ensures
