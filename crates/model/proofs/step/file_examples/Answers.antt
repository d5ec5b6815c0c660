use Rattle.std.proofs.Common.{refl}
use Rattle.std.specs.Fmt.{digits}
use Rattle.xdr.specs.Forms.{counted, padded, elements, elements_at, each_at, counted_at, padded_at}
use Rattle.xdr.specs.Grammar.{number, number_at}
use Rattle.model_tree.specs.Rights.Acl.{first_of, granted}
use Rattle.model.specs.Attributes.AclText.{number_in, who_in, ace_in}
use Rattle.model.specs.Attributes.Attribute.{attributes_of, attribute_refusals}
use Rattle.model.specs.Attributes.AttributeValue.{value_at, values_at}
use Rattle.model_tree.specs.Trees.Charge.{fits}
use Rattle.model_tree.specs.Rights.Inherit.{inherited}
use Rattle.model_tree.specs.Rights.Mode.{mode_of, moded}
use Rattle.model_tree.specs.Refusals.Name.{name_refusals}
use Rattle.model.specs.Attributes.NodeAttributes.{node_attributes}
use Rattle.model.specs.Operations.ReadDir.{page}
use Rattle.model.specs.Sessions.StateIds.{found, opened}
use Rattle.model.specs.Operations.Step.{refusals, effect, does, permitted}
use Rattle.std.specs.Char.{encode_utf8}
use Rattle.std.specs.Str.{is_utf8, chars}
use Rattle.model.proofs.step.file_examples.Goals as goal

pub returns : goal.returns
unfolding first_of granted number_in who_in ace_in attributes_of attribute_refusals value_at values_at number number_at counted padded elements elements_at each_at counted_at padded_at digits fits inherited mode_of moded name_refusals permitted node_attributes page found opened refusals effect does is_utf8 chars encode_utf8
returns c = record {
  too_small = refl;
  no_page = refl;
  nothing_left = refl;
  one_fits = refl;
  goes_on = refl;
  not_same = refl;
  no_entries = refl;
  renamed_over = refl;
  saves = refl;
  nothing_saved = refl;
  root_has_no_parent = refl;
  access_of_owner = refl;
  access_of_other = refl;
  attributes = refl;
  high_mode = refl;
  size_of_directory = refl;
  empty_list = refl;
  empty_list_by_other = refl;
  sets_nothing = refl;
  opens = refl;
  too_new = refl;
  joins = refl;
  newest = refl;
  current_reads = refl;
  closes = refl;
  closed = refl;
  anonymous_is_not_closed = refl;
  looked_up_again = refl;
  removed = refl;
  gone = refl;
  guarded = refl;
  none = refl;
  handle_creates = refl;
  no_access = refl;
  denies = refl;
  exclusive = refl;
  full = refl;
  full_makes_nothing = refl;
  unstable = refl;
  stable = refl;
  empty_write = refl;
  hole = refl;
  cut_and_grown = refl;
  too_far = refl;
  takes_as_many = refl;
  reads_all = refl;
  reads_part = refl;
  reads_behind = refl;
  cut = refl;
  cut_counts = refl;
  not_cut = refl;
  open_mode = refl;
  committed = refl;
}
