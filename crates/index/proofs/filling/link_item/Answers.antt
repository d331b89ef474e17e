use Rattle.index.proofs.Building.{link-kind, link-owner, link_on}
use Rattle.index.proofs.filling.link_item.Goals as goal

pub returns-then-kind-gt-LAST_KIND : goal.returns-then-kind-gt-LAST_KIND
returns-then-kind-gt-LAST_KIND c = link-kind _ _ c.kind-kind.ensures _ c.requires.0 c.requires.1 c.if-kind-gt-LAST_KIND.true

pub returns-then-count-owner : goal.returns-then-count-owner
returns-then-count-owner c = link-owner _ _ c.kind-kind.ensures _ c.requires.0 c.requires.1 c.owner-owner.ensures c.count.ensures.is c.if-count-owner.true

pub returns : goal.returns
returns c = link_on _ _ c.kind-kind.ensures _ c.requires.0 c.requires.1 c.owner-owner.ensures c.if-kind-gt-LAST_KIND.false c.count.ensures.is c.if-count-owner.false c.put_front.ensures
