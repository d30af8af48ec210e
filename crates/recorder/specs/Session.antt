-- What a session of the host makes of a drive and its volume: the calls in their order, each on what the last one left.
use Rattle.std.specs.Prelude.{ℕ, zero, suc, ◌+◌, List}
use Rattle.drive.specs.declared.Drive.{Drive}
use Rattle.drive.specs.declared.Done.{Done}
use Rattle.opening.specs.Format.{format_done, format_volume}
use Rattle.reading.specs.Read.{read_answer, read_buffer}
use Rattle.reports.specs.Report.{report_of}
use Rattle.changes.specs.Write.{write_done, write_volume}
use Rattle.changes.specs.Rekey.{begin_done, begin_volume, sweep_done, sweep_volume, finish_done, finish_volume}
use Rattle.recorder.specs.declared.Setup.{Setup}
use Rattle.recorder.specs.declared.Heard.{Heard}

-- what the host holds between two calls
pub record Holding : Type 0 where
  pub drive : Drive
  pub vol : List ℕ

abbrev pub holding : Drive → List ℕ → Holding
holding d v = record { drive = d; vol = v }

-- after each call
abbrev pub format_of : Setup → List ℕ → List ℕ → List ℕ → Done
format_of s salt first v = format_done s.shape salt first s.outside v

abbrev pub after_format : Setup → List ℕ → List ℕ → List ℕ → Holding
after_format s salt first v = holding (format_of s salt first v).drive (format_volume s.shape salt first s.outside v)

abbrev pub after_write : ℕ → List ℕ → Holding → Holding
after_write o text h = holding (write_done h.drive h.vol o text).drive (write_volume h.drive h.vol o text)

abbrev pub after_begin : List ℕ → Holding → Holding
after_begin secret h = holding (begin_done h.drive h.vol secret).drive (begin_volume h.drive h.vol secret)

abbrev pub after_sweep : ℕ → Holding → Holding
after_sweep n h = holding (sweep_done h.drive h.vol n).drive (sweep_volume h.drive h.vol n)

abbrev pub after_finish : Holding → Holding
after_finish h = holding (finish_done h.drive h.vol).drive (finish_volume h.drive h.vol)

-- k sweeps, from nugget i on
unfoldable pub swept_from : ℕ → ℕ → Holding → Holding
swept_from i zero h = h
swept_from i (suc k) h = swept_from (i + 1) k (after_sweep i h)

-- the session once the text is written, once the change is begun, once all nuggets are swept, and at its end
module _ (s : Setup) (salt first second v text : List ℕ) where
  abbrev pub noted : Holding
  noted = after_write s.offset text (after_format s salt first v)

  abbrev pub unswept : Holding
  unswept = after_begin second noted

  abbrev pub all_swept : Holding
  all_swept = swept_from 0 s.shape.n (after_finish unswept)

  abbrev pub left_by : Holding
  left_by = after_finish all_swept

  -- what it was told, with a buffer of so many bytes to read back into
  abbrev pub heard_of : ℕ → Heard
  heard_of many =
      let a = after_format s salt first v in
      record {
        formatted = (format_of s salt first v).answer;
        written = (write_done a.drive a.vol s.offset text).answer;
        begun = (begin_done noted.drive noted.vol second).answer;
        early = (finish_done unswept.drive unswept.vol).answer;
        finished = (finish_done all_swept.drive all_swept.vol).answer;
        read = read_answer left_by.drive left_by.vol s.offset many;
        report = report_of left_by.drive left_by.vol;
      }

  -- and what the buffer then holds
  abbrev pub reading_back : List ℕ → List ℕ
  reading_back buffer = read_buffer left_by.drive left_by.vol s.offset buffer
