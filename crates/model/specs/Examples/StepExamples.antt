-- Operations worked out by hand, on a fresh volume of 256 sectors and 16 nodes in its first run:
-- the definitions compute to them.
use Rattle.std.specs.Prelude.{ℕ, true, List, [], ◌∷◌, Option, Some, None, ◌≡◌, ◌-◌, ◌^◌, replicate}
use Rattle.model_tree.specs.declared.acl.Cred.{Cred}
use Rattle.model_tree.specs.declared.acl.AceKind.TheVariants as kind
use Rattle.model_tree.specs.declared.acl.Who.TheVariants as who
use Rattle.model_tree.specs.declared.status.Status.{Status}
use Rattle.model_tree.specs.declared.status.Status.TheVariants as status
use Rattle.model.specs.Operations.Answer.{Answer, Outcome}
use Rattle.model_tree.specs.Trees.Charge.{charge_of_blocks, divided_up}
use Rattle.model_tree.specs.Trees.Changes.{acl_of}
use Rattle.model_tree.specs.Trees.Fresh.{fresh_root, fresh_tree}
use Rattle.model_tree.specs.Trees.Limits.{limits_of}
use Rattle.model_tree.specs.declared.limits.Limits.{Limits}
use Rattle.model_tree.specs.Rights.Mode.{entry}
use Rattle.model_tree.specs.Trees.Keyed.{at}
use Rattle.model_tree.specs.Refusals.Name.{name_refusals}
use Rattle.model.specs.Sessions.Opens.{no_opens}
use Rattle.model.specs.Operations.Operation.{Argument, Attributes, ChangeInfo, NewDirectory, OtherType}
use Rattle.model_tree.specs.Refusals.Refusal.{first_refusal}
use Rattle.model.specs.Operations.Step.{State, does}
use Rattle.model_tree.specs.Trees.Tree.{Tree, Directory, names_at}
use Rattle.model.specs.Server.World.{Next, Refuses, first_or, later_tests}

abbrev pub volume : Limits
volume = limits_of 256 16

abbrev pub caller : (uid : ℕ) → Cred
caller uid = record { uid = uid; gid = uid; gids = [] }

-- a COMPOUND by this caller begins, after `changes` changes in the first run
abbrev pub begun : (uid : ℕ) → Tree → (changes : ℕ) → State
begun uid tree changes = record {
  tree = tree;
  changes = changes;
  opens = no_opens;
  context = record { cred = caller uid; client = 4294967297; run = 1; current = None; saved = None };
}

-- the outcomes of operations one after the other, each at the moment 1,000
abbrev pub outcomes : Limits → State → List Argument → List Outcome
outcomes limits state [] = []
outcomes limits state (operation ∷ rest) =
    let stepped = does limits state 1000 operation in stepped.outcome ∷ outcomes limits stepped.state rest

-- and the state that they leave
abbrev pub state_after : Limits → State → List Argument → State
state_after limits state [] = state
state_after limits state (operation ∷ rest) = state_after limits (does limits state 1000 operation).state rest

abbrev pub nothing_given : Attributes
nothing_given = record { bitmap = []; values = [] }

-- a mode below 65,536
abbrev pub mode_given : (high low : ℕ) → Attributes
mode_given high low = record { bitmap = 0 ∷ 2 ∷ []; values = 0 ∷ 0 ∷ high ∷ low ∷ [] }

-- 97 and 98 are `a` and `b`
abbrev pub make_a : Argument
make_a = Argument.Create (NewDirectory (97 ∷ []) (mode_given 1 0xED))

abbrev pub make_b : Argument
make_b = Argument.Create (NewDirectory (98 ∷ []) nothing_given)

-- with an empty list and the mode 755
abbrev pub make_b_without_entries : Argument
make_b_without_entries = Argument.Create (NewDirectory (98 ∷ []) (record {
  bitmap = 0x1000 ∷ 2 ∷ [];
  values = 0 ∷ 0 ∷ 0 ∷ 0 ∷ 0 ∷ 0 ∷ 1 ∷ 0xED ∷ [];
}))

abbrev pub with_a : Tree
with_a = (
  1,
  record fresh_root {
    change = 4294967297;
    time_modify = 1000;
    content = Directory ((4294967297, record { name = 97 ∷ []; number = 4294967297 }) ∷ []);
  },
)
    ∷ (
      4294967297,
      record {
        owner = 7;
        group = 7;
        acl = entry kind.Allow who.Owner 0x67 ∷ entry kind.Allow who.Group 0x21 ∷ entry kind.Deny who.Group 0x46 ∷ entry kind.Allow who.Everyone 0x21 ∷ [];
        change = 4294967297;
        time_modify = 1000;
        content = Directory [];
      },
    )
    ∷ []

abbrev pub made_a : Outcome
made_a = Outcome.Done (Answer.Create (record {
  change = record { is_atomic = true; before = 1; after = 4294967297 };
  was_set = 0 ∷ 2 ∷ [];
}))

-- what one operation in the root returns if "a" is there
abbrev pub in_root : (uid : ℕ) → Argument → List Outcome
in_root uid operation = outcomes volume (begun uid with_a 1) (Argument.PutRootFh ∷ operation ∷ [])

abbrev pub at_root : Outcome
at_root = Outcome.Done Answer.PutRootFh

abbrev pub name_refusal : List ℕ → Option Status
name_refusal name = first_refusal (name_refusals volume name)

-- the root is the saved filehandle, and a directory the current one
abbrev pub renaming : (to : ℕ) → State
renaming to = record {
  tree = with_a;
  changes = 1;
  opens = no_opens;
  context = record {
    cred = caller 7;
    client = 4294967297;
    run = 1;
    current = Some (record { number = to; state = None });
    saved = Some (record { number = 1; state = None });
  };
}

abbrev pub rename_to : (letter : ℕ) → Argument
rename_to letter = Argument.Rename (record { old_name = 97 ∷ []; new_name = letter ∷ [] })

abbrev pub unchanged : ChangeInfo
unchanged = record { is_atomic = true; before = 4294967297; after = 4294967297 }

abbrev pub altered : ChangeInfo
altered = record { is_atomic = true; before = 4294967297; after = 4294967298 }

pub record StepExamples : Type 0 where
  -- "a" is made in the root, mode 755: its number is the first change's stamp, and its filehandle
  -- that number
  pub makes : outcomes volume (begun 7 fresh_tree 0) (Argument.PutRootFh ∷ make_a ∷ Argument.GetFh ∷ [])
      ≡ at_root ∷ made_a ∷ Outcome.Done (Answer.GetFh (0 ∷ 0 ∷ 0 ∷ 1 ∷ 0 ∷ 0 ∷ 0 ∷ 1 ∷ [])) ∷ []
  pub made : (state_after volume (begun 7 fresh_tree 0) (Argument.PutRootFh ∷ make_a ∷ [])).tree ≡ with_a
  pub counted : (state_after volume (begun 7 fresh_tree 0) (Argument.PutRootFh ∷ make_a ∷ [])).changes ≡ 1
  -- it is found by its name and by its filehandle
  pub found : (state_after volume (begun 8 with_a 1) (Argument.PutRootFh ∷ Argument.Lookup (97 ∷ []) ∷ [])).context.current
      ≡ Some (record { number = 4294967297; state = None })
  pub put : (state_after volume (begun 8 with_a 1) (Argument.PutFh (0 ∷ 0 ∷ 0 ∷ 1 ∷ 0 ∷ 0 ∷ 0 ∷ 1 ∷ []) ∷ [])).context.current
      ≡ Some (record { number = 4294967297; state = None })
  -- refusals of names
  pub exist : in_root 7 make_a ≡ at_root ∷ Outcome.Refused 6 status.Exist ∷ []
  pub none : in_root 7 (Argument.Lookup (98 ∷ [])) ≡ at_root ∷ Outcome.Refused 15 status.NoEnt ∷ []
  pub empty : name_refusal [] ≡ Some status.Inval
  pub longest : name_refusal (replicate 255 97) ≡ None
  pub too_long : name_refusal (replicate 256 97) ≡ Some status.NameTooLong
  pub no_text : name_refusal (0xC3 ∷ []) ≡ Some status.Inval
  pub text : name_refusal (0xC3 ∷ 0xA4 ∷ []) ≡ None
  pub path : name_refusal (97 ∷ 47 ∷ []) ≡ Some status.BadChar
  pub null : name_refusal (97 ∷ 0 ∷ []) ≡ Some status.BadChar
  pub dot : name_refusal (46 ∷ []) ≡ Some status.BadName
  pub dots : name_refusal (46 ∷ 46 ∷ []) ≡ Some status.BadName
  pub three_dots : name_refusal (46 ∷ 46 ∷ 46 ∷ []) ≡ None
  -- refusals of filehandles
  pub no_handle : outcomes volume (begun 7 with_a 1) (Argument.GetFh ∷ []) ≡ Outcome.Refused 10 status.NoFileHandle ∷ []
  pub bad_handle : outcomes volume (begun 7 with_a 1) (Argument.PutFh (1 ∷ []) ∷ []) ≡ Outcome.Refused 22 status.BadHandle ∷ []
  pub stale : outcomes volume (begun 7 with_a 1) (Argument.PutFh (0 ∷ 0 ∷ 0 ∷ 0 ∷ 0 ∷ 0 ∷ 0 ∷ 2 ∷ []) ∷ [])
      ≡ Outcome.Refused 22 status.Stale ∷ []
  -- refusals of what is to be made
  pub bad_type : in_root 7 (Argument.Create (OtherType 1)) ≡ at_root ∷ Outcome.Refused 6 status.BadType ∷ []
  pub high_mode : in_root 7 (Argument.Create (NewDirectory (98 ∷ []) (mode_given 2 0))) ≡ at_root ∷ Outcome.Refused 6 status.Inval ∷ []
  -- an empty list may be given, and remains empty if a mode is given with it
  pub list_given : in_root 7 make_b_without_entries ≡ at_root ∷ Outcome.Done (Answer.Create (record {
    change = altered;
    was_set = 0x1000 ∷ 2 ∷ [];
  })) ∷ []
  pub list_stands : acl_of (at 4294967298 (state_after volume (begun 7 with_a 1) (Argument.PutRootFh ∷ make_b_without_entries ∷ [])).tree) ≡ []
  pub owner_given : in_root 7 (Argument.Create (NewDirectory (98 ∷ []) (record { bitmap = 0 ∷ 0x10 ∷ []; values = [] })))
      ≡ at_root ∷ Outcome.Refused 6 status.Inval ∷ []
  pub short_values : in_root 7 (Argument.Create (NewDirectory (98 ∷ []) (record { bitmap = 0 ∷ 2 ∷ []; values = 0 ∷ 0 ∷ 1 ∷ [] })))
      ≡ at_root ∷ Outcome.Refused 6 status.BadXdr ∷ []
  -- another caller may look into "a" and make nothing there
  pub not_granted : outcomes volume (begun 8 with_a 1) (Argument.PutRootFh ∷ Argument.Lookup (97 ∷ []) ∷ make_b ∷ [])
      ≡ at_root ∷ Outcome.Done Answer.Lookup ∷ Outcome.Refused 6 status.Access ∷ []
  -- no room: of two nodes the second is the last one
  pub no_node_left : outcomes (limits_of 256 2) (begun 7 with_a 1) (Argument.PutRootFh ∷ make_b ∷ []) ≡ at_root ∷ Outcome.Refused 6 status.NoSpc ∷ []
  pub last_node : outcomes (limits_of 256 2) (begun 7 fresh_tree 0) (Argument.PutRootFh ∷ make_a ∷ []) ≡ at_root ∷ made_a ∷ []
  -- after 2^32 - 1 changes no stamp is left
  pub no_stamp_left : outcomes volume (begun 7 fresh_tree (2 ^ 32 - 1)) (Argument.PutRootFh ∷ make_a ∷ [])
      ≡ at_root ∷ Outcome.Refused 6 status.ServerFault ∷ []
  -- a name of the root goes to a directory: the same name stays, another is a change, and none goes
  -- below itself
  pub same_name : (does volume (renaming 1) 1000 (rename_to 97)).outcome ≡ Outcome.Done (Answer.Rename (record { source = unchanged; target = unchanged }))
  pub another_name : (does volume (renaming 1) 1000 (rename_to 99)).outcome ≡ Outcome.Done (Answer.Rename (record { source = altered; target = altered }))
  pub moved_tree : names_at (does volume (renaming 1) 1000 (rename_to 99)).state.tree 1
      ≡ (4294967298, record { name = 99 ∷ []; number = 4294967297 }) ∷ []
  pub below_itself : (does volume (renaming 4294967297) 1000 (rename_to 99)).outcome ≡ Outcome.Refused 29 status.Inval
  -- what is not served, such as LINK: the test is around the operation
  pub not_served : (next : Next) → first_or (later_tests 11) next ≡ Refuses 11 status.NotSupp
  -- charges of 8,200, 364,543, 364,545 and 16,777,216 bytes; the data region
  pub charges : charge_of_blocks (divided_up 8200 4096) ∷ charge_of_blocks (divided_up 364544 4096)
      ∷ charge_of_blocks (divided_up 364545 4096) ∷ charge_of_blocks (divided_up 16777216 4096) ∷ volume.data_sectors ∷ []
      ≡ 4 ∷ 90 ∷ 91 ∷ 4105 ∷ 92 ∷ []
