use Rattle.std.proofs.Common.{◌≡◌, ◌+◌, ◌*◌, ◌≤◌, drop}
use Rattle.listing_lines.specs.Listing.{wrote, rest}
use Rattle.listing_lines.proofs.digits.Text.put_line.Given as goal

abbrev pub invariant-loop-v : goal.invariant-loop-v
invariant-loop-v l = record {
  same : l.self.out.ghost_name ≡ l.initial.self.out.ghost_name;
  end : l.self.at ≤ l.initial.self.at + 21 * l.v-index;
  text :
      wrote l.self.out.now l.self.at (rest (drop l.v-index l.values))
      ≡ wrote l.initial.self.out.now l.initial.self.at (rest l.values);
}
