-- What an operation shows of bytes that its caller may not read: nothing. The right is READ_DATA of
-- RFC 8881, section 6.2.1.3.1.
use Rattle.std.specs.Prelude.{◌≡◌, ℕ, Bool, true, false, [], ◌∷◌, length, replicate}
use Rattle.model_tree.specs.Rights.Acl.{read_data}
use Rattle.model_tree.specs.Trees.Keyed.{at}
use Rattle.model_tree.specs.Trees.Tree.{Tree, Node, Content, File, Directory}
use Rattle.model_tree.specs.declared.acl.Cred.{Cred}
use Rattle.model_tree.specs.declared.limits.Limits.{Limits}
use Rattle.model.specs.Operations.Need.{granted_on}
use Rattle.model.specs.Operations.Operation.{Argument}
use Rattle.model.specs.Operations.Step.{State, Stepped, does}

-- a file of zeros of the same length
abbrev pub blank : Content → Content
blank (File bytes) = File (replicate (length bytes) 0)
blank (Directory names) = Directory names

abbrev pub hidden_if : (secret : Bool) → Node → Node
hidden_if true node = record node { content = blank node.content }
hidden_if false node = node

-- the tree with zeros for the bytes of the files of these numbers
abbrev pub hidden : (secret : ℕ → Bool) → Tree → Tree
hidden secret [] = []
hidden secret (entry ∷ rest) =
    (entry.0, hidden_if (secret entry.0) entry.1) ∷ hidden secret rest

abbrev pub hiding : (secret : ℕ → Bool) → State → State
hiding secret state = record state { tree = hidden secret state.tree }

abbrev pub hiding_after : (secret : ℕ → Bool) → Stepped → Stepped
hiding_after secret stepped = record stepped { state = hiding secret stepped.state }

-- the caller may read none of them
abbrev pub MayReadNone : (secret : ℕ → Bool) → Tree → Cred → Type 0
MayReadNone secret tree cred =
    (number : ℕ) → secret number ≡ true → granted_on (at number tree) cred read_data ≡ false

-- Over the tree with zeros for these bytes, each operation has the same result, and leaves the same
-- opens, context and tree, except for these bytes.
abbrev pub EachIsBlind : Type 0
EachIsBlind =
    (limits : Limits) (secret : ℕ → Bool) (state : State) (now : ℕ) (operation : Argument)
    → MayReadNone secret state.tree state.context.cred
    → hiding_after secret (does limits (hiding secret state) now operation)
    ≡ hiding_after secret (does limits state now operation)

-- So it has one result over two trees that differ in these bytes only.
abbrev pub EachAnswersAlike : Type 0
EachAnswersAlike =
    (limits : Limits) (secret : ℕ → Bool) (one other : State) (now : ℕ) (operation : Argument)
    → hiding secret one ≡ hiding secret other → MayReadNone secret one.tree one.context.cred
    → (does limits one now operation).outcome ≡ (does limits other now operation).outcome
