-- What the reader gives is what the layout says, and the file has the expected stamp (`reader_gives`). Assumes nothing.
use Rattle.std.specs.Prelude.{◌≡◌, refl, true, List, ℕ, Option, Some, Ok}
use Rattle.day.specs.declared.Ends.{Ends}
use Rattle.day.specs.declared.Stamp.{Stamp}
use Rattle.day.specs.Day.{Day}
use Rattle.day.specs.File.{number2, number4, is_stamped, Layout, periods_in, stamp_in, charge_in, field, store_in}
use Rattle.tables.specs.Filled.{FrontFilled, front_filled}
use Rattle.dayfile.specs.Answers.{Reading}
use Rattle.dayfile.specs.Passed.{stamp_passed, read_given}
use Rattle.dayfile.specs.Layout.{laid_out}
use Rattle.dayfile_reader.specs.Tables.{read_passed}

-- an accepted reading: the file is laid out as `Layout` says, with n periods, its stamp is the expected one, and A, Z, r, c, b, p, h, s come from
-- their places; where the head has no charges, A and Z are both 0, and where a record holds no store limit, that is 65,535
pub record Read (expected : Option Stamp) (s : List ℕ) (n : ℕ) (ends : Ends) (before after : Day) : Type 0 where
  pub layout : Layout s n
  pub stamped : is_stamped s ≡ true
  pub stamp : expected ≡ Some (stamp_in s)
  pub opening : ends.opening ≡ charge_in 0 s
  pub closing : ends.closing ≡ charge_in 2 s
  pub demand : FrontFilled n (field number2 0 s) before.demand after.demand
  pub capacity : FrontFilled n (field number2 2 s) before.capacity after.capacity
  pub setup : FrontFilled n (field number4 4 s) before.setup after.setup
  pub unit : FrontFilled n (field number4 8 s) before.unit after.unit
  pub holding : FrontFilled n (field number4 12 s) before.holding after.holding
  pub store : FrontFilled n (store_in s) before.store after.store

pub reader_gives : (expected : Option Stamp) (s : List ℕ) (n : ℕ) (ends : Ends) (before after : Day) → Reading expected s before (Ok (n, ends)) after
    → Read expected s n ends before after
reader_gives expected s n ends before after w =
    let c = read_passed expected s before w.0 in
    let given = read_given s n ends w.1 in
    let found = stamp_passed expected s c.stamp in
    rw (given.0, given.1, w.2)
    (record {
      layout = laid_out s c.walked;
      stamped = found.0;
      stamp = found.1;
      opening = refl;
      closing = refl;
      demand = front_filled (periods_in s) (field number2 0 s) before.demand c.cells.demand;
      capacity = front_filled (periods_in s) (field number2 2 s) before.capacity c.cells.capacity;
      setup = front_filled (periods_in s) (field number4 4 s) before.setup c.cells.setup;
      unit = front_filled (periods_in s) (field number4 8 s) before.unit c.cells.unit;
      holding = front_filled (periods_in s) (field number4 12 s) before.holding c.cells.holding;
      store = front_filled (periods_in s) (store_in s) before.store c.cells.store;
    })
