-- A line that is sent is whole, and none follows one that was not. Assumes nothing.
use Rattle.std.specs.Prelude.{Result, Ok, ⊤}
use mathlib.Core.Path.{◌≡◌, refl, ◌∙◌}
use mathlib.Core.List.{List}
use Prim.Native.Nat.{ℕ, ◌≤◌}
use native.Mathlib.Omega.{arith}
use lib.ListN.{length}
use mathlib.Core.Bool.{false}
use Rattle.rule_laws.proofs.ToolLaws.{true_not_false}
use Rattle.lines.specs.declared.Page.{Page}
use Rattle.lines.specs.Put.{reach}
use Rattle.lines.specs.Page.{Wrote}
use Rattle.lines.proofs.Putting.{put_length}
use Rattle.door.specs.declared.Unwritten.{Unwritten}
use Rattle.door.specs.Sent.{NextLine, Whole}

-- What is put from the page's end on ends no earlier.
onward : {text : List ℕ} {p q : Page} → Wrote p text q → length p.bytes.now ≤ p.at → length q.bytes.now ≤ q.at
unfolding reach
onward w h =
    let x = w.put.place in
    let n = put_length w.put in
    omega arith

-- A line that was sent had room.
pub next_front : {text : List ℕ} {p q : Page} {sent : Result ⊤ Unwritten} → Wrote p text q → Whole (length q.bytes.now) q.at sent → sent ≡ Ok tt
    → NextLine p (record q { at = 0 }) (Ok tt)
next_front w u t =
    record { lent = w.lent; room = put_length w.put; begins = refl; ends = tt; stays = λ h. true_not_false false (rw t at (u.uncut (onward w h))) refl }

-- A text put before the line's end.
pub next_after : {text : List ℕ} {p q r : Page} {sent : Result ⊤ Unwritten} → Wrote p text q → NextLine q r sent → NextLine p r sent
next_after w v =
    record { lent = v.lent ∙ w.lent; room = v.room ∙ put_length w.put; begins = v.begins; ends = v.ends; stays = λ h. v.stays (onward w h) }
