-- `board::leave`: the air with one fewer, and beside it what is kept.
use Rattle.std.proofs.Common.{sym, arith}
use Rattle.board_air.specs.Words.{stations_on}
use Rattle.board_air.proofs.Airs.{air_of_lem}
use Rattle.board_anew.proofs.Parts.{air_counts}
use Rattle.board.proofs.Changes.{left-on, leave-left, leave_asks}
use Rattle.board.proofs.leave.Goals as goal

pub renew-requires : goal.renew-requires
unfolding stations_on
renew-requires c =
    let a = c.args in
    let parts = c.split_at_mut-air.ensures in
    let asked = leave_asks a.board.now a.id c.in_ok-check_leave.ensures in
    let on = left-on a.board.now a.id (sym c.in_ok-check_leave.ensures) (λ i. (c.slice_known-1.given i).fits) in
    let air = air_counts c.remove.new.air (rw (c.remove.ensures, parts.front) (air_of_lem on).0) in
    (air.0, air.1, air.2, omega (arith, parts.back_len, asked.0))

pub returns-clause-board_after : goal.returns-clause-board_after
returns-clause-board_after c =
    let a = c.args in
    let parts = c.split_at_mut-air.ensures in
    rw (c.renew.ensures, c.remove.ensures, parts.front, parts.back)
    (leave-left a.board.now a.id (sym c.in_ok-check_leave.ensures) (λ i. (c.slice_known-1.given i).fits))
