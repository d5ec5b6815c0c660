use Rattle.xdr.specs.Forms as X
use Rattle.std.proofs.Common.{refl}
use Rattle.xdr.specs.Grammar.{number_at}
use Rattle.model_tree.specs.Rights.Acl.{first_of, granted}
use Rattle.model.specs.Attributes.Attribute.{attributes_of, attribute_refusals}
use Rattle.model.specs.Attributes.AttributeValue.{value_at, values_at}
use Rattle.model_tree.specs.Trees.Charge.{fits}
use Rattle.model_tree.specs.Rights.Inherit.{inherited}
use Rattle.model_tree.specs.Rights.Mode.{moded}
use Rattle.model_tree.specs.Refusals.Name.{name_refusals}
use Rattle.model.specs.Operations.Step.{refusals, effect, does, permitted}
use Rattle.std.specs.Char.{encode_utf8}
use Rattle.std.specs.Str.{is_utf8, chars}
use Rattle.model.proofs.step.examples.Goals as goal

pub returns : goal.returns
unfolding first_of granted attributes_of attribute_refusals value_at values_at number_at fits inherited moded name_refusals permitted refusals effect does is_utf8 chars encode_utf8 X.elements_at X.each_at
returns c = record {
  makes = refl;
  made = refl;
  counted = refl;
  found = refl;
  put = refl;
  exist = refl;
  none = refl;
  empty = refl;
  longest = refl;
  too_long = refl;
  no_text = refl;
  text = refl;
  path = refl;
  null = refl;
  dot = refl;
  dots = refl;
  three_dots = refl;
  no_handle = refl;
  bad_handle = refl;
  stale = refl;
  bad_type = refl;
  high_mode = refl;
  list_given = refl;
  list_stands = refl;
  owner_given = refl;
  short_values = refl;
  not_granted = refl;
  no_node_left = refl;
  last_node = refl;
  no_stamp_left = refl;
  same_name = refl;
  another_name = refl;
  moved_tree = refl;
  below_itself = refl;
  not_served = λ next. refl;
  charges = refl;
}
