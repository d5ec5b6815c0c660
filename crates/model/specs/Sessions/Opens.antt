-- The opens of a run, by their serials: RFC 8881, sections 8.2 (stateids) and 18.16 (OPEN).
use Rattle.std.specs.Prelude.{ℕ, List, []}
use Rattle.model_tree.specs.Trees.Keyed.{Keyed}

pub record Open : Type 0 where
  pub client : ℕ
  pub owner : List ℕ
  pub number : ℕ  -- of the file
  pub access : ℕ
  pub seqid : ℕ

-- how many serials were given in this run, and the opens that there are
pub record Opens : Type 0 where
  pub given : ℕ
  pub known : Keyed Open

abbrev pub no_opens : Opens
no_opens = record { given = 0; known = [] }
