-- The laws of the printed report hold.
use Rattle.sheet.specs.Laws.{SheetLaws}
use Rattle.sheet.proofs.Front.{put_front}
use Rattle.sheet.proofs.Texts.{text-no, text-yes, text-whole, text-odd, text-long, text-enough}
use Rattle.sheet.proofs.Words.{words-length, word-is}

pub sheet-laws : SheetLaws
sheet-laws = record {
  words_count = words-length;
  words_are = word-is;
  refused = text-no;
  filled = text-yes;
  whole = text-whole;
  odd = text-odd;
  long = text-long;
  enough = text-enough;
  put_front = put_front;
}
