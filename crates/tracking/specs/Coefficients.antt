-- The coefficients of channel tracking (this project's own). Made by tools/tracking-rows from
-- tools/tracking_coefficients.txt.
use Rattle.std.specs.Prelude.{ℕ, List, [], ◌∷◌, ℤ, pos, neg_ℤ}
use Rattle.mode_set.specs.declared.modes.Guard.{Guard}
use Rattle.mode_set.specs.declared.modes.Guard.TheVariants.{G1of32, G1of16, G1of8, G1of4}
use Rattle.tracking.specs.declared.motion.Motion.{Motion}
use Rattle.tracking.specs.declared.motion.Motion.TheVariants.{Slow, Fast}

-- the taps of the interpolation in time for a slow and a fast channel, four for each distance 0 to 3, as 4096 times the
-- weight of a symbol
unfoldable pub time_taps : Motion → List (List ℤ)
time_taps Slow =
    (pos 1365 ∷ pos 1366 ∷ pos 1365 ∷ pos 0 ∷ []) ∷
    (pos 1331 ∷ pos 1126 ∷ pos 922 ∷ pos 717 ∷ []) ∷
    (pos 1024 ∷ pos 1024 ∷ pos 1024 ∷ pos 1024 ∷ []) ∷
    (pos 717 ∷ pos 922 ∷ pos 1126 ∷ pos 1331 ∷ []) ∷ []
time_taps Fast =
    (pos 0 ∷ pos 4096 ∷ pos 0 ∷ pos 0 ∷ []) ∷
    (neg_ℤ (pos 295) ∷ pos 3426 ∷ pos 1233 ∷ neg_ℤ (pos 268) ∷ []) ∷
    (neg_ℤ (pos 381) ∷ pos 2429 ∷ pos 2429 ∷ neg_ℤ (pos 381) ∷ []) ∷
    (neg_ℤ (pos 268) ∷ pos 1233 ∷ pos 3426 ∷ neg_ℤ (pos 295) ∷ []) ∷ []

-- the first 17 rows of the interpolation in frequency for each guard interval, as 16384 times the weight of a comb
-- point
unfoldable pub frequency_rows : Guard → List (List ℤ)
frequency_rows G1of32 =
    (pos 13948 ∷ pos 4381 ∷ neg_ℤ (pos 488) ∷ neg_ℤ (pos 1757) ∷ neg_ℤ (pos 1000) ∷ pos 260 ∷ pos 975 ∷ pos 778
    ∷ neg_ℤ (pos 46) ∷ neg_ℤ (pos 798) ∷ neg_ℤ (pos 705) ∷ pos 753 ∷ []) ∷
    (pos 10205 ∷ pos 5481 ∷ pos 1867 ∷ neg_ℤ (pos 223) ∷ neg_ℤ (pos 883) ∷ neg_ℤ (pos 586) ∷ pos 31 ∷ pos 426 ∷ pos 352
    ∷ neg_ℤ (pos 61) ∷ neg_ℤ (pos 350) ∷ pos 102 ∷ []) ∷
    (pos 7018 ∷ pos 6102 ∷ pos 3704 ∷ pos 1183 ∷ neg_ℤ (pos 521) ∷ neg_ℤ (pos 1071) ∷ neg_ℤ (pos 695) ∷ pos 38 ∷ pos 539
    ∷ pos 488 ∷ pos 1 ∷ neg_ℤ (pos 384) ∷ []) ∷
    (pos 4381 ∷ pos 6301 ∷ pos 5040 ∷ pos 2425 ∷ pos 28 ∷ neg_ℤ (pos 1227) ∷ neg_ℤ (pos 1192) ∷ neg_ℤ (pos 345)
    ∷ pos 551 ∷ pos 847 ∷ pos 319 ∷ neg_ℤ (pos 705) ∷ []) ∷
    (pos 2275 ∷ pos 6145 ∷ pos 5907 ∷ pos 3475 ∷ pos 709 ∷ neg_ℤ (pos 1093) ∷ neg_ℤ (pos 1456) ∷ neg_ℤ (pos 685)
    ∷ pos 427 ∷ pos 1024 ∷ pos 577 ∷ neg_ℤ (pos 870) ∷ []) ∷
    (pos 666 ∷ pos 5701 ∷ pos 6346 ∷ pos 4310 ∷ pos 1464 ∷ neg_ℤ (pos 715) ∷ neg_ℤ (pos 1491) ∷ neg_ℤ (pos 949)
    ∷ pos 208 ∷ pos 1034 ∷ pos 757 ∷ neg_ℤ (pos 895) ∷ []) ∷
    (neg_ℤ (pos 488) ∷ pos 5040 ∷ pos 6407 ∷ pos 4919 ∷ pos 2238 ∷ neg_ℤ (pos 145) ∷ neg_ℤ (pos 1314) ∷ neg_ℤ (pos 1111)
    ∷ neg_ℤ (pos 65) ∷ pos 900 ∷ pos 847 ∷ neg_ℤ (pos 798) ∷ []) ∷
    (neg_ℤ (pos 1238) ∷ pos 4231 ∷ pos 6149 ∷ pos 5300 ∷ pos 2983 ∷ pos 563 ∷ neg_ℤ (pos 946) ∷ neg_ℤ (pos 1153)
    ∷ neg_ℤ (pos 351) ∷ pos 650 ∷ pos 840 ∷ neg_ℤ (pos 605) ∷ []) ∷
    (neg_ℤ (pos 1640) ∷ pos 3340 ∷ pos 5631 ∷ pos 5456 ∷ pos 3653 ∷ pos 1353 ∷ neg_ℤ (pos 416) ∷ neg_ℤ (pos 1063)
    ∷ neg_ℤ (pos 613) ∷ pos 316 ∷ pos 738 ∷ neg_ℤ (pos 345) ∷ []) ∷
    (neg_ℤ (pos 1757) ∷ pos 2425 ∷ pos 4919 ∷ pos 5402 ∷ pos 4213 ∷ pos 2171 ∷ pos 239 ∷ neg_ℤ (pos 838)
    ∷ neg_ℤ (pos 817) ∷ neg_ℤ (pos 65) ∷ pos 551 ∷ neg_ℤ (pos 46) ∷ []) ∷
    (neg_ℤ (pos 1649) ∷ pos 1541 ∷ pos 4076 ∷ pos 5158 ∷ pos 4634 ∷ pos 2965 ∷ pos 980 ∷ neg_ℤ (pos 483)
    ∷ neg_ℤ (pos 935) ∷ neg_ℤ (pos 454) ∷ pos 294 ∷ pos 261 ∷ []) ∷
    (neg_ℤ (pos 1377) ∷ pos 730 ∷ pos 3164 ∷ pos 4751 ∷ pos 4897 ∷ pos 3690 ∷ pos 1766 ∷ neg_ℤ (pos 13)
    ∷ neg_ℤ (pos 947) ∷ neg_ℤ (pos 815) ∷ neg_ℤ (pos 13) ∷ pos 544 ∷ []) ∷
    (neg_ℤ (pos 1000) ∷ pos 28 ∷ pos 2238 ∷ pos 4213 ∷ pos 4992 ∷ pos 4305 ∷ pos 2553 ∷ pos 554 ∷ neg_ℤ (pos 838)
    ∷ neg_ℤ (pos 1111) ∷ neg_ℤ (pos 345) ∷ pos 778 ∷ []) ∷
    (neg_ℤ (pos 572) ∷ neg_ℤ (pos 540) ∷ pos 1351 ∷ pos 3579 ∷ pos 4918 ∷ pos 4778 ∷ pos 3298 ∷ pos 1191
    ∷ neg_ℤ (pos 601) ∷ neg_ℤ (pos 1310) ∷ neg_ℤ (pos 672) ∷ pos 939 ∷ []) ∷
    (neg_ℤ (pos 138) ∷ neg_ℤ (pos 960) ∷ pos 545 ∷ pos 2886 ∷ pos 4684 ∷ pos 5086 ∷ pos 3963 ∷ pos 1868
    ∷ neg_ℤ (pos 239) ∷ neg_ℤ (pos 1385) ∷ neg_ℤ (pos 964) ∷ pos 1008 ∷ []) ∷
    (pos 260 ∷ neg_ℤ (pos 1227) ∷ neg_ℤ (pos 145) ∷ pos 2171 ∷ pos 4305 ∷ pos 5213 ∷ pos 4513 ∷ pos 2553 ∷ pos 239
    ∷ neg_ℤ (pos 1314) ∷ neg_ℤ (pos 1192) ∷ pos 975 ∷ []) ∷
    (pos 592 ∷ neg_ℤ (pos 1345) ∷ neg_ℤ (pos 693) ∷ pos 1470 ∷ pos 3804 ∷ pos 5155 ∷ pos 4917 ∷ pos 3209 ∷ pos 816
    ∷ neg_ℤ (pos 1085) ∷ neg_ℤ (pos 1327) ∷ pos 834 ∷ []) ∷ []
frequency_rows G1of16 =
    (pos 15153 ∷ pos 2714 ∷ neg_ℤ (pos 1490) ∷ neg_ℤ (pos 932) ∷ pos 512 ∷ pos 783 ∷ pos 31 ∷ neg_ℤ (pos 561)
    ∷ neg_ℤ (pos 308) ∷ pos 333 ∷ pos 393 ∷ neg_ℤ (pos 344) ∷ []) ∷
    (pos 9986 ∷ pos 6470 ∷ pos 1536 ∷ neg_ℤ (pos 1201) ∷ neg_ℤ (pos 1111) ∷ pos 184 ∷ pos 809 ∷ pos 254
    ∷ neg_ℤ (pos 514) ∷ neg_ℤ (pos 365) ∷ pos 459 ∷ neg_ℤ (pos 58) ∷ []) ∷
    (pos 5844 ∷ pos 8573 ∷ pos 4026 ∷ neg_ℤ (pos 652) ∷ neg_ℤ (pos 1916) ∷ neg_ℤ (pos 481) ∷ pos 978 ∷ pos 799
    ∷ neg_ℤ (pos 366) ∷ neg_ℤ (pos 721) ∷ pos 236 ∷ pos 204 ∷ []) ∷
    (pos 2714 ∷ pos 9266 ∷ pos 5890 ∷ pos 472 ∷ neg_ℤ (pos 1975) ∷ neg_ℤ (pos 1058) ∷ pos 706 ∷ pos 1049
    ∷ neg_ℤ (pos 25) ∷ neg_ℤ (pos 781) ∷ neg_ℤ (pos 117) ∷ pos 393 ∷ []) ∷
    (pos 527 ∷ pos 8839 ∷ pos 7090 ∷ pos 1920 ∷ neg_ℤ (pos 1406) ∷ neg_ℤ (pos 1420) ∷ pos 169 ∷ pos 1012 ∷ pos 362
    ∷ neg_ℤ (pos 612) ∷ neg_ℤ (pos 463) ∷ pos 479 ∷ []) ∷
    (neg_ℤ (pos 827) ∷ pos 7609 ∷ pos 7638 ∷ pos 3455 ∷ neg_ℤ (pos 359) ∷ neg_ℤ (pos 1483) ∷ neg_ℤ (pos 455) ∷ pos 732
    ∷ pos 678 ∷ neg_ℤ (pos 297) ∷ neg_ℤ (pos 704) ∷ pos 455 ∷ []) ∷
    (neg_ℤ (pos 1490) ∷ pos 5890 ∷ pos 7587 ∷ pos 4867 ∷ pos 994 ∷ neg_ℤ (pos 1206) ∷ neg_ℤ (pos 1010) ∷ pos 276
    ∷ pos 840 ∷ pos 80 ∷ neg_ℤ (pos 781) ∷ pos 333 ∷ []) ∷
    (neg_ℤ (pos 1622) ∷ pos 3971 ∷ pos 7028 ∷ pos 5991 ∷ pos 2476 ∷ neg_ℤ (pos 592) ∷ neg_ℤ (pos 1367) ∷ neg_ℤ (pos 265)
    ∷ pos 806 ∷ pos 438 ∷ neg_ℤ (pos 674) ∷ pos 139 ∷ []) ∷
    (neg_ℤ (pos 1385) ∷ pos 2100 ∷ pos 6077 ∷ pos 6712 ∷ pos 3917 ∷ pos 315 ∷ neg_ℤ (pos 1437) ∷ neg_ℤ (pos 797)
    ∷ pos 574 ∷ pos 708 ∷ neg_ℤ (pos 406) ∷ neg_ℤ (pos 88) ∷ []) ∷
    (neg_ℤ (pos 932) ∷ pos 472 ∷ pos 4867 ∷ pos 6971 ∷ pos 5172 ∷ pos 1435 ∷ neg_ℤ (pos 1174) ∷ neg_ℤ (pos 1223)
    ∷ pos 182 ∷ pos 840 ∷ neg_ℤ (pos 25) ∷ neg_ℤ (pos 308) ∷ []) ∷
    (neg_ℤ (pos 398) ∷ neg_ℤ (pos 784) ∷ pos 3533 ∷ pos 6764 ∷ pos 6122 ∷ pos 2665 ∷ neg_ℤ (pos 578) ∷ neg_ℤ (pos 1460)
    ∷ neg_ℤ (pos 307) ∷ pos 808 ∷ pos 396 ∷ neg_ℤ (pos 479) ∷ []) ∷
    (pos 110 ∷ neg_ℤ (pos 1602) ∷ pos 2205 ∷ pos 6136 ∷ pos 6688 ∷ pos 3888 ∷ pos 310 ∷ neg_ℤ (pos 1443)
    ∷ neg_ℤ (pos 806) ∷ pos 612 ∷ pos 780 ∷ neg_ℤ (pos 570) ∷ []) ∷
    (pos 512 ∷ neg_ℤ (pos 1975) ∷ pos 994 ∷ pos 5172 ∷ pos 6835 ∷ pos 4986 ∷ pos 1415 ∷ neg_ℤ (pos 1137)
    ∷ neg_ℤ (pos 1223) ∷ pos 276 ∷ pos 1049 ∷ neg_ℤ (pos 561) ∷ []) ∷
    (pos 764 ∷ neg_ℤ (pos 1949) ∷ neg_ℤ (pos 12) ∷ pos 3983 ∷ pos 6566 ∷ pos 5854 ∷ pos 2634 ∷ neg_ℤ (pos 535)
    ∷ neg_ℤ (pos 1468) ∷ neg_ℤ (pos 150) ∷ pos 1144 ∷ neg_ℤ (pos 447) ∷ []) ∷
    (pos 851 ∷ neg_ℤ (pos 1607) ∷ neg_ℤ (pos 754) ∷ pos 2695 ∷ pos 5925 ∷ pos 6407 ∷ pos 3852 ∷ pos 335
    ∷ neg_ℤ (pos 1468) ∷ neg_ℤ (pos 604) ∷ pos 1031 ∷ neg_ℤ (pos 240) ∷ []) ∷
    (pos 783 ∷ neg_ℤ (pos 1058) ∷ neg_ℤ (pos 1206) ∷ pos 1435 ∷ pos 4986 ∷ pos 6592 ∷ pos 4952 ∷ pos 1415
    ∷ neg_ℤ (pos 1174) ∷ neg_ℤ (pos 1010) ∷ pos 706 ∷ pos 31 ∷ []) ∷
    (pos 593 ∷ neg_ℤ (pos 418) ∷ neg_ℤ (pos 1374) ∷ pos 317 ∷ pos 3848 ∷ pos 6393 ∷ pos 5828 ∷ pos 2620
    ∷ neg_ℤ (pos 572) ∷ neg_ℤ (pos 1290) ∷ pos 201 ∷ pos 325 ∷ []) ∷ []
frequency_rows G1of8 =
    (pos 16052 ∷ pos 818 ∷ neg_ℤ (pos 1025) ∷ pos 582 ∷ pos 144 ∷ neg_ℤ (pos 417) ∷ pos 114 ∷ pos 218 ∷ neg_ℤ (pos 203)
    ∷ neg_ℤ (pos 4) ∷ pos 116 ∷ neg_ℤ (pos 72) ∷ []) ∷
    (pos 9230 ∷ pos 9791 ∷ neg_ℤ (pos 2163) ∷ neg_ℤ (pos 1831) ∷ pos 2033 ∷ pos 157 ∷ neg_ℤ (pos 1460) ∷ pos 663
    ∷ pos 749 ∷ neg_ℤ (pos 1205) ∷ pos 700 ∷ neg_ℤ (pos 138) ∷ []) ∷
    (pos 4122 ∷ pos 13933 ∷ neg_ℤ (pos 232) ∷ neg_ℤ (pos 2911) ∷ pos 1749 ∷ pos 824 ∷ neg_ℤ (pos 1557) ∷ pos 277
    ∷ pos 1001 ∷ neg_ℤ (pos 1089) ∷ pos 461 ∷ neg_ℤ (pos 21) ∷ []) ∷
    (pos 818 ∷ pos 14053 ∷ pos 3317 ∷ neg_ℤ (pos 2457) ∷ pos 272 ∷ pos 1123 ∷ neg_ℤ (pos 722) ∷ neg_ℤ (pos 332)
    ∷ pos 687 ∷ neg_ℤ (pos 320) ∷ neg_ℤ (pos 66) ∷ pos 116 ∷ []) ∷
    (neg_ℤ (pos 874) ∷ pos 11411 ∷ pos 7047 ∷ neg_ℤ (pos 631) ∷ neg_ℤ (pos 1368) ∷ pos 846 ∷ pos 409 ∷ neg_ℤ (pos 714)
    ∷ pos 69 ∷ pos 498 ∷ neg_ℤ (pos 476) ∷ pos 172 ∷ []) ∷
    (neg_ℤ (pos 1333) ∷ pos 7410 ∷ pos 9810 ∷ pos 2103 ∷ neg_ℤ (pos 2322) ∷ pos 62 ∷ pos 1274 ∷ neg_ℤ (pos 656)
    ∷ neg_ℤ (pos 547) ∷ pos 950 ∷ neg_ℤ (pos 562) ∷ pos 121 ∷ []) ∷
    (neg_ℤ (pos 1025) ∷ pos 3317 ∷ pos 10930 ∷ pos 5111 ∷ neg_ℤ (pos 2084) ∷ neg_ℤ (pos 939) ∷ pos 1514
    ∷ neg_ℤ (pos 194) ∷ neg_ℤ (pos 909) ∷ pos 878 ∷ neg_ℤ (pos 320) ∷ neg_ℤ (pos 4) ∷ []) ∷
    (neg_ℤ (pos 394) ∷ pos 59 ∷ pos 10256 ∷ pos 7735 ∷ neg_ℤ (pos 566) ∷ neg_ℤ (pos 1750) ∷ pos 1040 ∷ pos 452
    ∷ neg_ℤ (pos 880) ∷ pos 366 ∷ pos 105 ∷ neg_ℤ (pos 138) ∷ []) ∷
    (pos 212 ∷ neg_ℤ (pos 1882) ∷ pos 8107 ∷ pos 9438 ∷ pos 1938 ∷ neg_ℤ (pos 1976) ∷ pos 31 ∷ pos 983 ∷ neg_ℤ (pos 474)
    ∷ neg_ℤ (pos 333) ∷ pos 502 ∷ neg_ℤ (pos 218) ∷ []) ∷
    (pos 582 ∷ neg_ℤ (pos 2457) ∷ pos 5111 ∷ pos 9911 ∷ pos 4862 ∷ neg_ℤ (pos 1356) ∷ neg_ℤ (pos 1139) ∷ pos 1137
    ∷ pos 160 ∷ neg_ℤ (pos 909) ∷ pos 687 ∷ neg_ℤ (pos 203) ∷ []) ∷
    (pos 649 ∷ neg_ℤ (pos 1961) ∷ pos 2012 ∷ pos 9122 ∷ pos 7539 ∷ pos 157 ∷ neg_ℤ (pos 2019) ∷ pos 788 ∷ pos 789
    ∷ neg_ℤ (pos 1115) ∷ pos 567 ∷ neg_ℤ (pos 95) ∷ []) ∷
    (pos 463 ∷ neg_ℤ (pos 881) ∷ neg_ℤ (pos 529) ∷ pos 7299 ∷ pos 9370 ∷ pos 2375 ∷ neg_ℤ (pos 2209) ∷ pos 1 ∷ pos 1172
    ∷ neg_ℤ (pos 851) ∷ pos 179 ∷ pos 66 ∷ []) ∷
    (pos 144 ∷ pos 272 ∷ neg_ℤ (pos 2084) ∷ pos 4862 ∷ pos 9973 ∷ pos 4909 ∷ neg_ℤ (pos 1475) ∷ neg_ℤ (pos 979)
    ∷ pos 1137 ∷ neg_ℤ (pos 194) ∷ neg_ℤ (pos 332) ∷ pos 218 ∷ []) ∷
    (neg_ℤ (pos 172) ∷ pos 1093 ∷ neg_ℤ (pos 2525) ∷ pos 2315 ∷ pos 9254 ∷ pos 7261 ∷ pos 184 ∷ neg_ℤ (pos 1788)
    ∷ pos 642 ∷ pos 621 ∷ neg_ℤ (pos 762) ∷ pos 296 ∷ []) ∷
    (neg_ℤ (pos 376) ∷ pos 1374 ∷ neg_ℤ (pos 2018) ∷ pos 129 ∷ pos 7421 ∷ pos 8942 ∷ pos 2527 ∷ neg_ℤ (pos 2046)
    ∷ neg_ℤ (pos 200) ∷ pos 1284 ∷ neg_ℤ (pos 925) ∷ pos 261 ∷ []) ∷
    (neg_ℤ (pos 417) ∷ pos 1123 ∷ neg_ℤ (pos 939) ∷ neg_ℤ (pos 1356) ∷ pos 4909 ∷ pos 9593 ∷ pos 5127 ∷ neg_ℤ (pos 1475)
    ∷ neg_ℤ (pos 1139) ∷ pos 1514 ∷ neg_ℤ (pos 722) ∷ pos 114 ∷ []) ∷
    (neg_ℤ (pos 305) ∷ pos 514 ∷ pos 255 ∷ neg_ℤ (pos 1994) ∷ pos 2266 ∷ pos 9066 ∷ pos 7467 ∷ pos 13 ∷ neg_ℤ (pos 1846)
    ∷ pos 1157 ∷ neg_ℤ (pos 186) ∷ neg_ℤ (pos 100) ∷ []) ∷ []
frequency_rows G1of4 =
    (pos 16351 ∷ pos 28 ∷ neg_ℤ (pos 38) ∷ pos 48 ∷ neg_ℤ (pos 54) ∷ pos 56 ∷ neg_ℤ (pos 52) ∷ pos 44 ∷ neg_ℤ (pos 33)
    ∷ pos 21 ∷ neg_ℤ (pos 12) ∷ pos 5 ∷ []) ∷
    (pos 10022 ∷ pos 10935 ∷ neg_ℤ (pos 7381) ∷ pos 6599 ∷ neg_ℤ (pos 6000) ∷ pos 5217 ∷ neg_ℤ (pos 4231) ∷ pos 3158
    ∷ neg_ℤ (pos 2151) ∷ pos 1333 ∷ neg_ℤ (pos 750) ∷ pos 377 ∷ []) ∷
    (pos 3974 ∷ pos 16774 ∷ neg_ℤ (pos 6939) ∷ pos 5592 ∷ neg_ℤ (pos 4841) ∷ pos 4084 ∷ neg_ℤ (pos 3244) ∷ pos 2384
    ∷ neg_ℤ (pos 1607) ∷ pos 988 ∷ neg_ℤ (pos 553) ∷ pos 276 ∷ []) ∷
    (pos 28 ∷ pos 16328 ∷ pos 60 ∷ neg_ℤ (pos 76) ∷ pos 89 ∷ neg_ℤ (pos 95) ∷ pos 93 ∷ neg_ℤ (pos 81) ∷ pos 63
    ∷ neg_ℤ (pos 43) ∷ pos 25 ∷ neg_ℤ (pos 12) ∷ []) ∷
    (neg_ℤ (pos 1375) ∷ pos 11282 ∷ pos 9180 ∷ neg_ℤ (pos 5126) ∷ pos 3938 ∷ neg_ℤ (pos 3133) ∷ pos 2407
    ∷ neg_ℤ (pos 1735) ∷ pos 1155 ∷ neg_ℤ (pos 704) ∷ pos 389 ∷ neg_ℤ (pos 190) ∷ []) ∷
    (neg_ℤ (pos 988) ∷ pos 4881 ∷ pos 15511 ∷ neg_ℤ (pos 5314) ∷ pos 3674 ∷ neg_ℤ (pos 2772) ∷ pos 2055
    ∷ neg_ℤ (pos 1440) ∷ pos 936 ∷ neg_ℤ (pos 558) ∷ pos 304 ∷ neg_ℤ (pos 146) ∷ []) ∷
    (neg_ℤ (pos 38) ∷ pos 60 ∷ pos 16287 ∷ pos 108 ∷ neg_ℤ (pos 128) ∷ pos 139 ∷ neg_ℤ (pos 138) ∷ pos 124
    ∷ neg_ℤ (pos 100) ∷ pos 71 ∷ neg_ℤ (pos 43) ∷ pos 21 ∷ []) ∷
    (pos 538 ∷ neg_ℤ (pos 1875) ∷ pos 11984 ∷ pos 8269 ∷ neg_ℤ (pos 4041) ∷ pos 2758 ∷ neg_ℤ (pos 1965) ∷ pos 1357
    ∷ neg_ℤ (pos 880) ∷ pos 527 ∷ neg_ℤ (pos 285) ∷ pos 134 ∷ []) ∷
    (pos 471 ∷ neg_ℤ (pos 1423) ∷ pos 5488 ∷ pos 14727 ∷ neg_ℤ (pos 4385) ∷ pos 2669 ∷ neg_ℤ (pos 1782) ∷ pos 1171
    ∷ neg_ℤ (pos 726) ∷ pos 415 ∷ neg_ℤ (pos 216) ∷ pos 97 ∷ []) ∷
    (pos 48 ∷ neg_ℤ (pos 76) ∷ pos 108 ∷ pos 16231 ∷ pos 166 ∷ neg_ℤ (pos 181) ∷ pos 181 ∷ neg_ℤ (pos 165) ∷ pos 136
    ∷ neg_ℤ (pos 100) ∷ pos 63 ∷ neg_ℤ (pos 33) ∷ []) ∷
    (neg_ℤ (pos 286) ∷ pos 810 ∷ neg_ℤ (pos 2260) ∷ pos 12490 ∷ pos 7660 ∷ neg_ℤ (pos 3370) ∷ pos 2085
    ∷ neg_ℤ (pos 1351) ∷ pos 849 ∷ neg_ℤ (pos 499) ∷ pos 266 ∷ neg_ℤ (pos 121) ∷ []) ∷
    (neg_ℤ (pos 293) ∷ pos 742 ∷ neg_ℤ (pos 1803) ∷ pos 5979 ∷ pos 14144 ∷ neg_ℤ (pos 3752) ∷ pos 2043
    ∷ neg_ℤ (pos 1222) ∷ pos 717 ∷ neg_ℤ (pos 393) ∷ pos 195 ∷ neg_ℤ (pos 82) ∷ []) ∷
    (neg_ℤ (pos 54) ∷ pos 89 ∷ neg_ℤ (pos 128) ∷ pos 166 ∷ pos 16174 ∷ pos 215 ∷ neg_ℤ (pos 216) ∷ pos 198
    ∷ neg_ℤ (pos 165) ∷ pos 124 ∷ neg_ℤ (pos 81) ∷ pos 44 ∷ []) ∷
    (pos 175 ∷ neg_ℤ (pos 459) ∷ pos 1060 ∷ neg_ℤ (pos 2595) ∷ pos 12901 ∷ pos 7198 ∷ neg_ℤ (pos 2896) ∷ pos 1642
    ∷ neg_ℤ (pos 975) ∷ pos 558 ∷ neg_ℤ (pos 293) ∷ pos 131 ∷ []) ∷
    (pos 208 ∷ neg_ℤ (pos 487) ∷ pos 1016 ∷ neg_ℤ (pos 2159) ∷ pos 6406 ∷ pos 13677 ∷ neg_ℤ (pos 3288) ∷ pos 1624
    ∷ neg_ℤ (pos 878) ∷ pos 462 ∷ neg_ℤ (pos 222) ∷ pos 89 ∷ []) ∷
    (pos 56 ∷ neg_ℤ (pos 95) ∷ pos 139 ∷ neg_ℤ (pos 181) ∷ pos 215 ∷ pos 16137 ∷ pos 234 ∷ neg_ℤ (pos 216) ∷ pos 181
    ∷ neg_ℤ (pos 138) ∷ pos 93 ∷ neg_ℤ (pos 52) ∷ []) ∷
    (neg_ℤ (pos 118) ∷ pos 300 ∷ neg_ℤ (pos 645) ∷ pos 1317 ∷ neg_ℤ (pos 2921) ∷ pos 13279 ∷ pos 6799 ∷ neg_ℤ (pos 2513)
    ∷ pos 1307 ∷ neg_ℤ (pos 707) ∷ pos 361 ∷ neg_ℤ (pos 159) ∷ []) ∷ []
