-- What a volume keeps: its tree, and the seats that its sectors encode.
use Rattle.std.proofs.Common.{ℕ, ◌≡◌, ◌<◌, ◌+◌, Option, None, refl, sym, ap, ap₂, ◌∙◌, arith}
use Rattle.disk.specs.Moments.{Image}
use Rattle.model_tree.specs.Seats.Seats.{Seats}
use Rattle.model_tree.specs.Trees.Tree.{Tree}
use Rattle.layout.specs.Stands.{Version, AreKept, Kept, IsMark, IsNumber, IsVersion, MayHaveSeats, By, TreeStands, StandsAs, StandsNow, current_version, five_places, seats_at, sizes_by, version_by}
use Rattle.layout.specs.declared.versions.VersionNumber.{VersionNumber}
use Rattle.layout.specs.declared.versions.VersionNumber.TheVariants as numbers
use Rattle.layout.proofs.SeatLaws.{holds_seats, seats_held}

pub record VersionParts (nodes : ℕ) (version : Version) (seats : Seats) : Type 0 where
  pub number : VersionNumber
  pub mark : Option ℕ
  pub is_number : IsNumber number
  pub is_mark : IsMark number nodes mark
  pub may : MayHaveSeats number mark seats
  pub same : version ≡ version_by number mark seats

pub version_parts : (nodes : ℕ) (version : Version) (seats : Seats) → IsVersion nodes version seats → VersionParts nodes version seats
version_parts nodes version seats (By number mark of is marked may) = record { number = number; mark = mark; is_number = is; is_mark = marked; may = may; same = refl }

-- an image that represents a tree in a version that a volume may have represents it with its seats
pub stands_by : (number : VersionNumber) (mark : Option ℕ) (size nodes : ℕ) (image : Image) (run : ℕ) (kept : Kept) → IsNumber number → IsMark number nodes mark → MayHaveSeats number mark kept.seats → AreKept (sizes_by number) run kept.seats
    → TreeStands (version_by number mark kept.seats) size nodes image run kept.tree → StandsAs size nodes image run kept
stands_by number mark size nodes image run kept is marked may keeps stands = record {
  version = version_by number mark kept.seats;
  is_version = By number mark kept.seats is marked may;
  keeps = keeps;
  stands = stands;
}

pub current_stands : (size nodes : ℕ) (image : Image) (run : ℕ) (kept : Kept) → AreKept five_places run kept.seats → TreeStands (current_version kept.seats) size nodes image run kept.tree → StandsAs size nodes image run kept
current_stands size nodes image run kept keeps stands = stands_by numbers.Two None size nodes image run kept tt tt tt keeps stands

pub stands_now : (number : VersionNumber) (size nodes : ℕ) (image : Image) (run : ℕ) (kept : Kept) → StandsNow number size nodes image run kept → StandsAs size nodes image run kept
stands_now number size nodes image run kept now = stands_by number None size nodes image run kept now.is_number tt now.may now.keeps now.stands

pub same_kept : (a b : Kept) → a.tree ≡ b.tree → a.seats ≡ b.seats → a ≡ b
same_kept a b trees seats = ap₂ (λ (t : Tree) (s : Seats). let of : Kept = record { tree = t; seats = s } in of) trees seats

-- The sectors determine the seats

-- those of a volume of one version
pub seats_by : (number : VersionNumber) (mark : Option ℕ) (size nodes : ℕ) (image : Image) (run : ℕ) (kept : Kept) → IsNumber number → MayHaveSeats number mark kept.seats → AreKept (sizes_by number) run kept.seats
    → TreeStands (version_by number mark kept.seats) size nodes image run kept.tree → seats_at number image ≡ kept.seats
seats_by number mark size nodes image run kept is may keeps stands =
    seats_held number kept.seats image is keeps.places (holds_seats number mark kept.seats image is may stands.laid.spare)

pub now_told : (number : VersionNumber) (size nodes : ℕ) (image : Image) (run : ℕ) (kept : Kept) → StandsNow number size nodes image run kept → seats_at number image ≡ kept.seats
now_told number size nodes image run kept now = seats_by number None size nodes image run kept now.is_number now.may now.keeps now.stands
