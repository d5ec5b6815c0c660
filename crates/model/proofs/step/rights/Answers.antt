use Rattle.std.proofs.Common.{refl}
use Rattle.std.specs.Fmt.{digits}
use Rattle.xdr.specs.Forms.{counted, padded, elements, elements_at, each_at, counted_at, padded_at}
use Rattle.xdr.specs.Grammar.{number, number_at}
use Rattle.model_tree.specs.Rights.Acl.{first_of, granted}
use Rattle.model.specs.Attributes.AclText.{number_in, who_in, ace_in}
use Rattle.model.specs.Attributes.Attribute.{attributes_of, attribute_refusals}
use Rattle.model.specs.Attributes.AttributeValue.{value_at, values_at}
use Rattle.model_tree.specs.Trees.Charge.{fits}
use Rattle.model_tree.specs.Rights.Inherit.{inherited}
use Rattle.model_tree.specs.Rights.Mode.{moded}
use Rattle.model_tree.specs.Refusals.Name.{name_refusals}
use Rattle.model.specs.Attributes.NodeAttributes.{node_attributes}
use Rattle.model.specs.Operations.ReadDir.{page}
use Rattle.model.specs.Sessions.StateIds.{found, opened}
use Rattle.model.specs.Operations.Step.{refusals, effect, does, permitted}
use Rattle.std.specs.Char.{encode_utf8}
use Rattle.std.specs.Str.{is_utf8, chars}
use Rattle.model.proofs.step.rights.Goals as goal

pub returns : goal.returns
unfolding first_of granted number_in who_in ace_in attributes_of attribute_refusals value_at values_at number number_at counted padded elements elements_at each_at counted_at padded_at digits fits inherited moded name_refusals permitted node_attributes page found opened refusals effect does is_utf8 chars encode_utf8
returns c = record {
  answers_look_up = refl;
  answers_make_directory = refl;
  answers_remove_file = refl;
  answers_rename_file = refl;
  answers_rename_directory = refl;
  answers_rename_over = refl;
  answers_lists_names = refl;
  answers_lists_lists = refl;
  answers_open_by_name = refl;
  answers_open_cutting = refl;
  answers_open_making = refl;
  answers_get_list = refl;
  answers_set_size = refl;
  answers_set_list = refl;
  answers_set_mode = refl;
  answers_set_owner = refl;
  answers_set_group = refl;
  answers_open_by_handle = refl;
  answers_read = refl;
  answers_write = refl;
  answers_access = refl;
  answers_parent = refl;
  look_up_wants = refl;
  parent_wants = refl;
  open_wants_look_up = refl;
  create_wants = refl;
  remove_wants = refl;
  remove_by_node = refl;
  remove_by_directory = refl;
  rename_wants = refl;
  target_wants = refl;
  file_wants = refl;
  file_needs_no_more = refl;
  directory_wants = refl;
  directory_needs_no_more = refl;
  across_takes = refl;
  across_takes_directory = refl;
  across_replaces = refl;
  across_adds_file = refl;
  across_adds_directory = refl;
  across_file = refl;
  across_directory = refl;
  across_by_nodes = refl;
  list_wants = refl;
  entry_wants = refl;
  entry_tells = refl;
  entry_behind_wants = refl;
  entry_before_is_passed = refl;
  get_wants = refl;
  get_mode = refl;
  size_wants = refl;
  list_is_written = refl;
  mode_is_a_list = refl;
  owner_wants = refl;
  group_wants = refl;
  open_reads = refl;
  open_writes = refl;
  open_cuts = refl;
  open_adds = refl;
  handle_reads = refl;
  handle_writes = refl;
  read_wants = refl;
  write_wants = refl;
}
