-- Each answer is known by what it says: two answers of which a definition says the same are equal.
use mathlib.Core.Path.{◌≡◌, refl, sym, ap}
use mathlib.Core.Bool.{true≢false}
use Rattle.std.specs.Prelude.{Option, Some, None, Result, Ok, Err}
use Rattle.answer.specs.declared.Refusal.{Refusal}
use Rattle.answer.proofs.Refusals.{number-not-zero, number_unique}
use Rattle.rib_entries.specs.Entry.{Entered, entry_values, Placed, cursor_values, Stepped, next_values}
use Rattle.rib_entries.specs.declared.Cursor.{Cursor}
use Rattle.rib_entries.specs.declared.Entry.{Entry}
use Rattle.rib_entries.specs.declared.Next.{Next}

-- the entry that such numbers say
entry_from : Entered → Entry
entry_from x = record { peer = x.peer; originated = x.originated; path = x.path; start = x.start; end = x.end }

pub entry_unique : (a b : Result Entry Refusal) → entry_values a ≡ entry_values b → a ≡ b
unfolding entry_from
entry_unique (Ok d) (Ok e) q = ap (λ (x : Entered). Ok (entry_from x)) q
entry_unique (Ok d) (Err r) q = absurd (number-not-zero r (ap (λ (x : Entered). x.number) (sym q)))
entry_unique (Err r) (Ok e) q = absurd (number-not-zero r (ap (λ (x : Entered). x.number) q))
entry_unique (Err r) (Err s) q =
    ap Err (number_unique r s (ap (λ (x : Entered). x.number) q))

pub cursor_unique : (a b : Result Cursor Refusal) → cursor_values a ≡ cursor_values b → a ≡ b
cursor_unique (Ok c) (Ok d) q = ap (λ (x : Placed). Ok (record { at = x.at; left = x.left })) q
cursor_unique (Ok c) (Err r) q = absurd (number-not-zero r (ap (λ (x : Placed). x.number) (sym q)))
cursor_unique (Err r) (Ok d) q = absurd (number-not-zero r (ap (λ (x : Placed). x.number) q))
cursor_unique (Err r) (Err s) q =
    ap Err (number_unique r s (ap (λ (x : Placed). x.number) q))

pub next_unique : (a b : Result (Option Next) Refusal) → next_values a ≡ next_values b → a ≡ b
unfolding entry_from
next_unique (Ok (Some m)) (Ok (Some n)) q =
    ap (λ (x : Stepped). Ok (Some (record { entry = entry_from x.entry; cursor = record { at = x.at; left = x.left } }))) q
next_unique (Ok (Some m)) (Ok None) q = absurd (true≢false (ap (λ (x : Stepped). x.handed) q))
next_unique (Ok (Some m)) (Err r) q = absurd (true≢false (ap (λ (x : Stepped). x.handed) q))
next_unique (Ok None) (Ok (Some n)) q = absurd (true≢false (ap (λ (x : Stepped). x.handed) (sym q)))
next_unique (Ok None) (Ok None) q = refl
next_unique (Ok None) (Err r) q = absurd (number-not-zero r (ap (λ (x : Stepped). x.number) (sym q)))
next_unique (Err r) (Ok (Some n)) q = absurd (true≢false (ap (λ (x : Stepped). x.handed) (sym q)))
next_unique (Err r) (Ok None) q = absurd (number-not-zero r (ap (λ (x : Stepped). x.number) q))
next_unique (Err r) (Err s) q =
    ap Err (number_unique r s (ap (λ (x : Stepped). x.number) q))
