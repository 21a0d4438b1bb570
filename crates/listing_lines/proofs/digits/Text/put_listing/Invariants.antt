use Rattle.std.proofs.Common.{◌≡◌, ◌+◌, ◌-◌, ◌*◌, ◌≤◌, length}
use Rattle.listing_lines.specs.Listing.{wrote}
use Rattle.listing_lines.proofs.Lines.{text}
use Rattle.listing_lines.proofs.digits.Text.put_listing.Given as goal

abbrev pub invariant-loop : goal.invariant-loop
invariant-loop l = record {
  same : l.self.out.ghost_name ≡ l.initial.self.out.ghost_name;
  end : l.self.at ≤ l.initial.self.at + 151 * l.counter;
  inside : l.w.position ≤ length l.s;
  text :
      wrote l.self.out.now l.self.at (text l.s (l.end - l.counter) l.w l.counters)
      ≡ wrote l.initial.self.out.now l.initial.self.at (text l.s l.end l.initial.w l.initial.counters);
}
