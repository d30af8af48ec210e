use Rattle.layout.specs.Shape.{sized}
use Rattle.base.proofs.PickLaws.{both-on, both_off}
use borrow.Author.Tests.{lt-leb, le-leb}
use mathlib.Core.Path.{sym, refl}
use Rattle.layout.proofs.are_sized.Goals as goal

pub returns-then-s-lt1 : goal.returns-then-s-lt1
unfolding sized
returns-then-s-lt1 c = let s = c.args.s in sym (both_off _ (lt-leb 1 s.n c.if-s-lt1.true))

pub returns-then-s-gt16384 : goal.returns-then-s-gt16384
unfolding sized
returns-then-s-gt16384 c = let s = c.args.s in sym (both-on (le-leb 1 s.n c.if-s-lt1.false) (both_off _ (lt-leb s.n 16384 c.if-s-gt16384.true)))

pub returns-then-s-lt1-2 : goal.returns-then-s-lt1-2
unfolding sized
returns-then-s-lt1-2 c = let s = c.args.s in sym (both-on (le-leb 1 s.n c.if-s-lt1.false) (both-on (le-leb s.n 16384 c.if-s-gt16384.false) (both_off _ (lt-leb 1 s.p c.if-s-lt1-2.true))))

pub returns-then-s-gt64 : goal.returns-then-s-gt64
unfolding sized
returns-then-s-gt64 c = let s = c.args.s in sym (both-on (le-leb 1 s.n c.if-s-lt1.false) (both-on (le-leb s.n 16384 c.if-s-gt16384.false) (both-on (le-leb 1 s.p c.if-s-lt1-2.false) (both_off _ (lt-leb s.p 64 c.if-s-gt64.true)))))

pub returns-then-s-lt64 : goal.returns-then-s-lt64
unfolding sized
returns-then-s-lt64 c = let s = c.args.s in sym (both-on (le-leb 1 s.n c.if-s-lt1.false) (both-on (le-leb s.n 16384 c.if-s-gt16384.false) (both-on (le-leb 1 s.p c.if-s-lt1-2.false) (both-on (le-leb s.p 64 c.if-s-gt64.false) (both_off _ (lt-leb 64 s.f c.if-s-lt64.true))))))

pub returns-then-s-gt4096 : goal.returns-then-s-gt4096
unfolding sized
returns-then-s-gt4096 c = let s = c.args.s in sym (both-on (le-leb 1 s.n c.if-s-lt1.false) (both-on (le-leb s.n 16384 c.if-s-gt16384.false) (both-on (le-leb 1 s.p c.if-s-lt1-2.false) (both-on (le-leb s.p 64 c.if-s-gt64.false) (both-on (le-leb 64 s.f c.if-s-lt64.false) (both_off _ (lt-leb s.f 4096 c.if-s-gt4096.true)))))))

pub returns : goal.returns
unfolding sized
returns c = let s = c.args.s in sym (both-on (le-leb 1 s.n c.if-s-lt1.false) (both-on (le-leb s.n 16384 c.if-s-gt16384.false) (both-on (le-leb 1 s.p c.if-s-lt1-2.false) (both-on (le-leb s.p 64 c.if-s-gt64.false) (both-on (le-leb 64 s.f c.if-s-lt64.false) (both-on (le-leb s.f 4096 c.if-s-gt4096.false) refl))))))
