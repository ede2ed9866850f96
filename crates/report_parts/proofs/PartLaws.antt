-- A line put into a part of a slice is stored in the slice.
use Prim.Native.Nat.{◌+◌, ◌≤◌, ℕ}
use Rattle.compare_model.specs.Said.{Said}
use Rattle.reply_line.specs.Line.{room_for, setting_for}
use Rattle.report_format.specs.Report.{LINE_ROOM, Printed, StoredWithin, line_length, line_put}
use Rattle.text.specs.Decimal.{written}
use borrow.Author.Tests.{le-ltb}
use borrow.Rule.Slice.PartMut.{mid_of, put_mid}
use lib.ListN.{drop, length, length-drop, take, take-append-drop}
use lib.Seq.{drop-append-le, drop-drop, length-take-le}
use mathlib.Core.List.{List, ◌++◌, append_assoc}
use mathlib.Core.Path.{◌∙◌, ◌≡◌, ap, refl, sym}
use native.Mathlib.Omega.{arith}

-- A line has no more of a setting than there is.
setting-short : (said : Said) (setting : List ℕ) → length (setting_for said setting) ≤ length setting
setting-short (Said.refused n) setting = omega arith
setting-short (Said.equal rows steps added) setting = omega arith
setting-short (Said.different rows steps added) setting = omega arith
setting-short (Said.size rows steps added) setting = omega arith
setting-short (Said.rows v rows steps added) setting = omega arith
setting-short (Said.steps v rows steps added) setting = omega arith

-- So the line of every reply fits.
pub room-short : (said : Said) (setting : List ℕ) → room_for said setting ≤ LINE_ROOM + length setting
room-short said setting = omega (arith, setting-short said setting)

-- What is printed in the k bytes from a place on is stored from there on.
pub part_stored : (out : List ℕ) (at k room r : ℕ) (line new : List ℕ) (given : ℕ) → at + k ≤ length out → r ≤ k → k ≤ room
    → length new ≡ length (mid_of at k out) → Printed r line (mid_of at k out) new given
    → StoredWithin out at room line (put_mid at k out new) (at + given)
unfolding line_put line_length written
part_stored out at k room r line new given within fits bound same p =
    let after : List ℕ = drop at out in
    let part : List ℕ = take k after in
    let long : length part ≡ k = length-take-le k after (omega (arith, length-drop at out)) in
    let test = le-ltb (length part) r (omega arith) in
    let list : new ≡ line ++ drop (length line) part = rw test at p.list in
    let count : given ≡ length line = rw test at p.count in
    let short : length line ≤ k = omega (arith, p.within) in
    let rest : drop (length line) part ++ drop k after ≡ drop (at + length line) out =
    sym (drop-append-le (length line) part (drop k after) (omega arith))
    ∙ ap (drop (length line)) (take-append-drop k after)
    ∙ drop-drop (length line) at out in
    record {
      stored =
          record {
            place = ap (◌+◌ at) count;
            list = rw (list, append_assoc line (drop (length line) part) (drop k after), rest) refl;
          };
      short = omega arith;
    }
