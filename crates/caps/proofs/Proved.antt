-- The laws hold.
use Rattle.caps.specs.Laws.{LawsOfCaps, LawsOfGaps, LawsOfOneMore}
use Rattle.caps.proofs.Floors.{floor_is_highest_and_lowest}
use Rattle.caps.proofs.Possible.{caps_possible, possible_below, settled_exactly}
use Rattle.caps.proofs.Spacing.{high_cap_is_far, spacing_of_one, few_lie_apart}
use Rattle.caps.proofs.Crossings.{largest_beside_the_crossing, largest_before_all_touches, largest_after_all_touches}
use Rattle.caps.proofs.Gaps.{each_is_a_gap, no_gap_is_missing, gaps_ascend, untouched_lies_in_a_gap}
use Rattle.caps.proofs.Highest.{high_lies_in_the_highest_gap, high_is_the_lowest_of_the_largest, ceiling_is_floor_or_highest, unsettled_has_a_highest_gap}
use Rattle.caps.proofs.Opens.{open_exactly_when_unsettled, lowest_open_is_lowest}
use Rattle.caps.proofs.Inserts.{stays_lawful, every_touch_stays, never_worse}

pub laws_of_caps : LawsOfCaps
laws_of_caps = record {
  floor_is_highest_and_lowest = floor_is_highest_and_lowest;
  caps_make_a_possible_sheet = caps_possible;
  no_sheet_above_a_cap = possible_below;
  settled_exactly = settled_exactly;
  high_cap_is_far = high_cap_is_far;
  spacing_of_one = spacing_of_one;
  few_lie_apart = few_lie_apart;
}

pub laws_of_gaps : LawsOfGaps
laws_of_gaps = record {
  each_is_a_gap = each_is_a_gap;
  no_gap_is_missing = no_gap_is_missing;
  gaps_ascend = gaps_ascend;
  untouched_lies_in_a_gap = untouched_lies_in_a_gap;
  largest_beside_the_crossing = λ line g a ls b rs p s l r. largest_beside_the_crossing line g p s a ls b rs l r;
  largest_before_all_touches = λ line g b rs p s r. largest_before_all_touches line g p s b rs r;
  largest_after_all_touches = λ line g a ls p s l. largest_after_all_touches line g p s a ls l;
  high_lies_in_the_highest_gap = λ line a ts on. high_lies_in_the_highest_gap line _ on;
  high_is_the_lowest_of_the_largest = λ line a ts. high_is_the_lowest_of_the_largest line _;
  ceiling_is_floor_or_highest = ceiling_is_floor_or_highest;
  unsettled_has_a_highest_gap = λ line a ts tolerance on. unsettled_has_a_highest_gap line a ts on tolerance;
  open_exactly_when_unsettled = λ line a ts tolerance on. open_exactly_when_unsettled line a ts on tolerance;
  lowest_open_is_lowest = λ line a ts tolerance g on. lowest_open_is_lowest line a ts on tolerance g;
}

pub laws_of_one_more : LawsOfOneMore
laws_of_one_more = record { stays_lawful = stays_lawful; every_touch_stays = every_touch_stays; never_worse = never_worse }
