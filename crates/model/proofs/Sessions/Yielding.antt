-- What holds of a table and of each that has fewer unconfirmed records holds of one that yields.
use Rattle.std.proofs.Common.{ℕ, Bool, true, false, cond, ◌&&◌, Option, None, Some, find}
use Rattle.model.specs.Sessions.Session.{SessionLimits, Client, Table, with_clients, without_where, has_most_clients, is_unconfirmed, is_unconfirmed_client, without_this, yielding}

pub yielding_is : (P : Table → Type 0) (limits : SessionLimits) (table : Table) → P table
    → ((number : ℕ) → P (with_clients (without_where (is_unconfirmed_client number) table.clients) table)) → P (yielding limits table)
yielding_is P limits table stays goes = by_test (table.settings.yields_when_full && has_most_clients limits table)
  where
    by_found : (known : Option Client) → P (without_this known table)
    by_found None = stays
    by_found (Some client) = goes client.number

    by_test : (b : Bool) → P (cond b (without_this (find is_unconfirmed table.clients) table) table)
    by_test true = by_found (find is_unconfirmed table.clients)
    by_test false = stays
