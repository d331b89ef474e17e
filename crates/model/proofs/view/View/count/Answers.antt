use Rattle.model.proofs.Showing.{count-few, count-seen}
use Rattle.model.proofs.view.View.count.Goals as goal

pub returns-clause-is : goal.returns-clause-is
returns-clause-is c = count-seen _ _ _ _ c.self.view_is c.items.ensures.is

pub returns-clause-few : goal.returns-clause-few
returns-clause-few c = count-few _ _ _ _ c.self.view_is c.items.ensures.few
