use Rattle.base.proofs.texts.ShapeLemmas.{item_shape, list_shape, quoted_shape}
use Rattle.base.proofs.text.laws.tokens_have_three_shapes.Goals as goal

pub returns-clause-item : goal.returns-clause-item
returns-clause-item c = item_shape

pub returns-clause-quoted : goal.returns-clause-quoted
returns-clause-quoted c = quoted_shape

pub returns-clause-list : goal.returns-clause-list
returns-clause-list c = list_shape
