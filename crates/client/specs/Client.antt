-- What a client of NFS version 4.1 knows between its calls: RFC 8881, sections 2.10.6 and 18.46;
-- RFC 5531, section 9.
use Rattle.std.specs.Prelude.{ℕ, Bool, List, Option}

-- the session that CREATE_SESSION returned last, and the number of the next request on its slot 0
pub record Session : Type 0 where
  pub id : List ℕ
  pub number : ℕ

-- the last record
pub record Sent : Type 0 where
  pub xid : ℕ
  -- the numbers of its operations
  pub operations : List ℕ
  -- as it is sent, its header included
  pub bytes : List ℕ
  pub is_answered : Bool
  -- a reply said that its SEQUENCE succeeded
  pub is_counted : Bool

pub record Client : Type 0 where
  -- the body of its credential, AUTH_SYS
  pub credential : List ℕ
  pub tag : List ℕ
  -- the xid of the next record
  pub xid : ℕ
  pub session : Option Session
  pub sent : Option Sent
